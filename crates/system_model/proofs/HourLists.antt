use Rattle.std.proofs.Common.{◌≡◌, ℕ, ◌+◌, ◌*◌, ◌<◌, ◌≤◌, List, [], ◌∷◌, ◌++◌, length, get_or, take, drop, map, refl, ap, sym, ◌∙◌, arith}
use Rattle.std.proofs.Math.Nat.{mul-le-mul_right}
use Rattle.std.specs.List.{range_with_len}
use Rattle.std.proofs.lemmas.List.{drop_at, take-append-le, drop-append-le, length-drop, get_or-take, get_or-drop, take_all, same_lists}
use Rattle.std.proofs.lemmas.List.FromFn.{length-map-range_with_len, get_or-map-range_with_len, map-range_with_len_more}
use Rattle.system_model.specs.System.{HourAmounts, amounts_of, no_hour}
use Rattle.system_model.specs.Parts.{row_of, hours_of}

pub hours_of-none : (zones : ℕ) (load variable : List ℕ) → hours_of zones 0 load variable ≡ []
unfolding hours_of
hours_of-none zones load variable = refl

pub length-hours_of : (zones hours : ℕ) (load variable : List ℕ) → length (hours_of zones hours load variable) ≡ hours
unfolding hours_of
length-hours_of zones hours load variable =
    length-map-range_with_len (λ hour. amounts_of (row_of zones load hour) (row_of zones variable hour)) 0 hours

pub get_or-hours_of : (zones hours : ℕ) (load variable : List ℕ) (hour : ℕ) (d : HourAmounts)
    → hour < hours
    → get_or (hours_of zones hours load variable) hour d ≡ amounts_of (row_of zones load hour) (row_of zones variable hour)
unfolding hours_of
get_or-hours_of zones hours load variable hour d below =
    get_or-map-range_with_len (λ hour. amounts_of (row_of zones load hour) (row_of zones variable hour)) 0 hours hour hour d
    below (omega arith)

-- a row that was there before more amounts came
pub row_of-before : (zones hours : ℕ) (amounts more : List ℕ) (hour : ℕ)
    → length amounts ≡ hours * zones
    → hour < hours
    → row_of zones (amounts ++ more) hour ≡ row_of zones amounts hour
row_of-before zones hours amounts more hour size below =
    let room : (hour + 1) * zones ≤ hours * zones = mul-le-mul_right zones (omega arith) in
    let whole : hour * zones + zones ≤ length amounts = omega arith in
    ap (take zones) (drop-append-le (hour * zones) amounts more (omega arith))
    ∙ take-append-le zones (drop (hour * zones) amounts) more (omega (arith, length-drop (hour * zones) amounts))

-- the row that came last
pub row_of-last : (zones hours : ℕ) (amounts more : List ℕ)
    → length amounts ≡ hours * zones
    → length more ≡ zones
    → row_of zones (amounts ++ more) hours ≡ more
row_of-last zones hours amounts more size width =
    ap (take zones) (drop_at amounts more (hours * zones) size) ∙ take_all zones more (omega arith)

same_amounts : (a b c d : List ℕ) → a ≡ b → c ≡ d → amounts_of a c ≡ amounts_of b d
same_amounts a b c d p q = cc

pub hours_of-push : (zones hours : ℕ) (load variable more_load more_variable : List ℕ)
    → length load ≡ hours * zones
    → length variable ≡ hours * zones
    → length more_load ≡ zones
    → length more_variable ≡ zones
    → hours_of zones (hours + 1) (load ++ more_load) (variable ++ more_variable)
    ≡ hours_of zones hours load variable ++ amounts_of more_load more_variable ∷ []
unfolding hours_of
hours_of-push zones hours load variable more_load more_variable l v ml mv =
    let before : ℕ → HourAmounts = λ hour. amounts_of (row_of zones load hour) (row_of zones variable hour) in
    let after : ℕ → HourAmounts =
    λ hour. amounts_of (row_of zones (load ++ more_load) hour) (row_of zones (variable ++ more_variable) hour) in
    let one_more : map after (range_with_len 0 (hours + 1)) ≡ map after (range_with_len 0 hours) ++ after hours ∷ [] =
    map-range_with_len_more after 0 hours hours (omega arith) in
    let kept : map after (range_with_len 0 hours) ≡ map before (range_with_len 0 hours) =
    same_lists _ _ (length-map-range_with_len after 0 hours ∙ sym (length-map-range_with_len before 0 hours))
    (λ k d h.
    let below : k < hours = omega (arith, length-map-range_with_len after 0 hours) in
    get_or-map-range_with_len after 0 hours k k d below (omega arith)
    ∙ same_amounts _ _ _ _ (row_of-before zones hours load more_load k l below)
    (row_of-before zones hours variable more_variable k v below)
    ∙ sym (get_or-map-range_with_len before 0 hours k k d below (omega arith))) in
    let last : after hours ≡ amounts_of more_load more_variable =
    same_amounts _ _ _ _ (row_of-last zones hours load more_load l ml)
    (row_of-last zones hours variable more_variable v mv) in
    one_more ∙ ap (λ (xs : List HourAmounts). xs ++ after hours ∷ []) kept
    ∙ ap (λ (x : HourAmounts). map before (range_with_len 0 hours) ++ x ∷ []) last

-- the place of a zone in an hour
pub place_in_range : (zones hours : ℕ) (amounts : List ℕ) (hour zone : ℕ)
    → length amounts ≡ hours * zones
    → hour < hours
    → zone < zones
    → hour * zones + zone < length amounts
place_in_range zones hours amounts hour zone size below among =
    let room : (hour + 1) * zones ≤ hours * zones = mul-le-mul_right zones (omega arith) in
    omega arith

get_or-row_of : (zones : ℕ) (amounts : List ℕ) (hour zone : ℕ)
    → zone < zones
    → get_or (row_of zones amounts hour) zone 0 ≡ get_or amounts (hour * zones + zone) 0
get_or-row_of zones amounts hour zone among =
    get_or-take zones (drop (hour * zones) amounts) zone 0 among ∙ get_or-drop (hour * zones) amounts zone 0

-- the load of a zone in an hour, from its place
pub load-hours_of : (zones hours : ℕ) (load variable : List ℕ) (hour zone : ℕ)
    → hour < hours
    → zone < zones
    → get_or (get_or (hours_of zones hours load variable) hour no_hour).load zone 0 ≡ get_or load (hour * zones + zone) 0
load-hours_of zones hours load variable hour zone below among =
    ap (λ (h : HourAmounts). get_or h.load zone 0) (get_or-hours_of zones hours load variable hour no_hour below)
    ∙ get_or-row_of zones load hour zone among

-- the variable generation of a zone in an hour, from its place
pub variable-hours_of : (zones hours : ℕ) (load variable : List ℕ) (hour zone : ℕ)
    → hour < hours
    → zone < zones
    → get_or (get_or (hours_of zones hours load variable) hour no_hour).variable zone 0
    ≡ get_or variable (hour * zones + zone) 0
variable-hours_of zones hours load variable hour zone below among =
    ap (λ (h : HourAmounts). get_or h.variable zone 0) (get_or-hours_of zones hours load variable hour no_hour below)
    ∙ get_or-row_of zones variable hour zone among
