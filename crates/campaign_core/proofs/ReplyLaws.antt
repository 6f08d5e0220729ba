-- A machine that replies to a list of calls.
use Rattle.std.proofs.Common.{◌≡◌, ℕ, ◌+◌, ◌<◌, ◌≤◌, List, [], ◌∷◌, ◌++◌, length, get_or, take, drop, refl, ap, sym, ◌∙◌, subst, arith}
use Rattle.std.proofs.lemmas.List.{take_more, drop_more, take_all, take-append-drop, length-take, map_push, same_from_push, length_push}
use Rattle.campaign_core.specs.declared.call.Call.{Call}
use Rattle.campaign_core.specs.declared.call.Reply.{Reply}
use Rattle.campaign_core.specs.declared.call.Entry.{Entry}
use Rattle.campaign_core.specs.History.{entry, IsLegal}
use Rattle.campaign_core.specs.Machine.{Machine, StandsFor, IsAllowed, MayBeCalled, calls_in, replies_in}
use Rattle.campaign_core.proofs.HistoryLaws.{last_of}

-- the machine replied to the first n calls, and stands for each history of these calls and replies
pub record Replied (opening block : ℕ) (m : Machine) (calls : List Call) (replies : List Reply) (n : ℕ) : Type 0 where
  pub target : m.opening ≡ opening
  pub step : m.block ≡ block
  pub each : length replies ≡ n
  pub stands : (h : List Entry) → calls_in h ≡ take n calls → replies_in h ≡ replies → StandsFor m h

-- the history of calls with their replies, all of caller 0
made : List Call → List Reply → List Entry
made [] replies = []
made (call ∷ calls) [] = []
made (call ∷ calls) (reply ∷ replies) = entry 0 call reply ∷ made calls replies

made_calls : (calls : List Call) (replies : List Reply) → length calls ≡ length replies → calls_in (made calls replies) ≡ calls
unfolding made
made_calls [] replies e = refl
made_calls (call ∷ calls) [] e = absurd (omega arith)
made_calls (call ∷ calls) (reply ∷ replies) e = ap (λ l. call ∷ l) (made_calls calls replies (omega arith))

made_replies : (calls : List Call) (replies : List Reply) → length calls ≡ length replies → replies_in (made calls replies) ≡ replies
unfolding made
made_replies [] [] e = refl
made_replies [] (reply ∷ replies) e = absurd (omega arith)
made_replies (call ∷ calls) [] e = absurd (omega arith)
made_replies (call ∷ calls) (reply ∷ replies) e = ap (λ l. reply ∷ l) (made_replies calls replies (omega arith))

pub replied_allowed : (opening block : ℕ) (m : Machine) (calls : List Call) (replies : List Reply) (n : ℕ) (d : Call)
    → Replied opening block m calls replies n → n < length calls → MayBeCalled opening block calls → IsAllowed m.out (get_or calls n d)
replied_allowed opening block m calls replies n d r more may =
    let h = made (take n calls) replies in
    let long : length (take n calls) ≡ length replies = omega (arith, length-take n calls, r.each) in
    let cs = made_calls (take n calls) replies long in
    let s = r.stands h cs (made_replies (take n calls) replies long) in
    let cut : calls ≡ calls_in h ++ get_or calls n d ∷ drop (n + 1) calls =
    sym (take-append-drop n calls) ∙ (ap (λ l. take n calls ++ l) (drop_more calls n d more) ∙ ap (λ l. l ++ get_or calls n d ∷ drop (n + 1) calls) (sym cs)) in
    let legal : IsLegal opening block h = subst (λ o. IsLegal o block h) r.target (subst (λ b. IsLegal m.opening b h) r.step s.legal) in
    subst (λ o. IsAllowed o (get_or calls n d)) (sym s.out) (may h (get_or calls n d) (drop (n + 1) calls) cut legal)

no_push : {A : Type 0} (xs : List A) (x : A) → [] ≡ xs ++ x ∷ [] → ⊥
no_push [] x h = cc
no_push (y ∷ xs) x h = cc

pub replied_push : (opening block : ℕ) (m n : Machine) (calls : List Call) (replies : List Reply) (k : ℕ) (d : Call) (reply : Reply)
    → Replied opening block m calls replies k → k < length calls
    → (n.opening ≡ m.opening) × (n.block ≡ m.block)
    → ((h : List Entry) (caller : ℕ) → StandsFor m h → StandsFor n (h ++ entry caller (get_or calls k d) reply ∷ []))
    → Replied opening block n calls (replies ++ reply ∷ []) (k + 1)
replied_push opening block m n calls replies k d reply r more same stands = record {
  target = same.0 ∙ r.target;
  step = same.1 ∙ r.step;
  each = omega (arith, length_push replies reply, r.each);
  stands = λ h cs rs. go h (cs ∙ take_more calls k d more) rs;
}
  where
    go : (h : List Entry) → calls_in h ≡ take k calls ++ get_or calls k d ∷ [] → replies_in h ≡ replies ++ reply ∷ [] → StandsFor n h
    go [] cs rs = absurd (no_push (take k calls) (get_or calls k d) cs)
    go (x ∷ h) cs rs =
        let l = last_of x h in
        let cs' = same_from_push (calls_in l.0) (take k calls) l.1.call (get_or calls k d) (sym (map_push (λ (e : Entry). e.call) l.0 l.1) ∙ (ap calls_in (sym l.2) ∙ cs)) in
        let rs' = same_from_push (replies_in l.0) replies l.1.reply reply (sym (map_push (λ (e : Entry). e.reply) l.0 l.1) ∙ (ap replies_in (sym l.2) ∙ rs)) in
        let last : l.1 ≡ entry l.1.caller (get_or calls k d) reply = ap (λ c. entry l.1.caller c l.1.reply) cs'.1 ∙ ap (entry l.1.caller (get_or calls k d)) rs'.1 in
        let whole : x ∷ h ≡ l.0 ++ entry l.1.caller (get_or calls k d) reply ∷ [] = l.2 ∙ ap (λ e. l.0 ++ e ∷ []) last in
        subst (StandsFor n) (sym whole) (stands l.0 l.1.caller (r.stands l.0 cs'.0 rs'.0))

pub replied_legal : (opening block : ℕ) (m : Machine) (calls : List Call) (replies : List Reply) (n : ℕ)
    → Replied opening block m calls replies n → length calls ≤ n → (h : List Entry) → calls_in h ≡ calls → replies_in h ≡ replies → IsLegal opening block h
replied_legal opening block m calls replies n r all h cs rs =
    let s = r.stands h (cs ∙ sym (take_all n calls all)) rs in
    subst (λ o. IsLegal o block h) r.target (subst (λ b. IsLegal m.opening b h) r.step s.legal)
