-- The draws of some hours, where a stream stands before the first of them.
use Rattle.std.proofs.Common.{◌≡◌, ℕ, ◌+◌, ◌*◌, ◌/◌, ◌%◌, ◌^◌, ◌<◌, ◌≤◌, List, ◌++◌, length, take, drop, get_or, arith, sym, ap, ◌∙◌}
use Rattle.std.proofs.Math.Nat.{mod-eq_of_lt}
use Rattle.std.proofs.lemmas.Nat.{div-mul-add, mod-mul-add, mul-le}
use Rattle.std.proofs.lemmas.List.{take-append-le, take_all}
use Rattle.sample_streams.specs.Draw.{Draws, draw, next_of, behind}
use Rattle.sample_streams.specs.HourDraws.{AreHeld}
use Rattle.sample_streams.specs.declared.hour_draws.TheConstants.{HOURS}

-- the places of an hour's draws are far below the end of a stream
pub early : (first hours components : ℕ) → first < 2 ^ 32 → hours ≤ 16 → components < 2 ^ 32 → (first + hours) * components < 2 ^ 68
early first hours components a b c =
    let most : (first + hours) * components ≤ 2 ^ 33 * 2 ^ 32 = mul-le (first + hours) components (2 ^ 33) (2 ^ 32) (omega arith) (omega arith) in
    omega (arith, most)

-- the draw of a component in an hour behind the first
pub draw-of : (draws : Draws) (first hours h k : ℕ)
    → draws.place ≡ first * draws.components
    → (first + hours) * draws.components < 2 ^ 68
    → h < hours
    → k < draws.components
    → next_of (behind (h * draws.components + k) draws) ≡ draw draws.components draws.seed draws.sample (first + h) k
draw-of draws first hours h k place small among below =
    let n = draws.components in
    let within : (h + 1) * n ≤ hours * n = mul-le (h + 1) n hours n (omega arith) (omega arith) in
    let at : (draws.place + (h * n + k)) % 2 ^ 68 ≡ (first + h) * n + k =
    ap (λ p. (p + (h * n + k)) % 2 ^ 68) place ∙ mod-eq_of_lt (omega (arith, within, small)) ∙ (let e : first * n + (h * n + k) ≡ (first + h) * n + k = omega arith in e) in
    ap (λ p. draw n draws.seed draws.sample (p / n) (p % n)) at
    ∙ ap (λ a. draw n draws.seed draws.sample a (((first + h) * n + k) % n)) (div-mul-add (first + h) n k below)
    ∙ ap (λ b. draw n draws.seed draws.sample (first + h) b) (mod-mul-add (first + h) n k below)

-- the place behind all of them
pub place-behind : (place first hours components : ℕ)
    → place ≡ first * components
    → (first + hours) * components < 2 ^ 68
    → (place + hours * components) % 2 ^ 68 ≡ (first + hours) * components
place-behind place first hours components is small =
    ap (λ p. (p + hours * components) % 2 ^ 68) is ∙ mod-eq_of_lt (omega (arith, small)) ∙ (let e : first * components + hours * components ≡ (first + hours) * components = omega arith in e)

-- the words that are drawn from the first hour's place on are held
pub filled : (before after : Draws) (components first : ℕ) (words : List ℕ)
    → before.components ≡ components
    → before.place ≡ first * components
    → first < 2 ^ 32
    → components < 2 ^ 32
    → length words ≡ HOURS * components
    → ((k : ℕ) → k < length words → get_or words k 0 ≡ next_of (behind k before))
    → ((k : ℕ) → k < length words → get_or words k 0 < 2 ^ 32)
    → after ≡ behind (length words) before
    → AreHeld after components words first 0
filled before after components first words count place soon narrow size drawn small_words is =
    let small : (first + HOURS) * components < 2 ^ 68 = early first HOURS components soon (omega arith) narrow in
    let behind_all : after ≡ record before { place = (first + HOURS) * components } =
    is ∙ ap (λ n. behind n before) size ∙ ap (λ p. record before { place = p }) (place-behind before.place first HOURS components place small) in
    record {
      among = omega arith;
      count = ap (λ (d : Draws). d.components) behind_all ∙ count;
      place = ap (λ (d : Draws). d.place) behind_all;
      size = size;
      each = λ h k among below.
          let within : (h + 1) * components ≤ HOURS * components = mul-le (h + 1) components HOURS components (omega arith) (omega arith) in
          drawn (h * components + k) (omega (arith, within, size))
          ∙ ap (λ n. next_of (behind (h * n + k) before)) (sym count)
          ∙ draw-of before first HOURS h k (place ∙ ap (λ n. first * n) (sym count)) (rw count small) among (omega (arith, count, below))
          ∙ ap (λ n. draw n before.seed before.sample (first + h) k) count
          ∙ ap (λ (d : Draws). draw components d.seed d.sample (first + h) k) (sym behind_all);
      small = small_words;
    }

-- a list of the same length that is written over another
pub written_over : (old new : List ℕ) (n : ℕ) → length old ≡ n → length new ≡ n → take n (new ++ drop (length new) old) ≡ new
written_over old new n a b = take-append-le n new (drop (length new) old) (omega arith) ∙ take_all n new (omega arith)
