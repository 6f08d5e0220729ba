use Rattle.std.proofs.Common.{◌≡◌, ◌≢◌, ℕ, ◌*◌, ◌<◌, ◌≤◌, ◌↔◌, min, arith, ⊎_elim, ap, ◌∙◌}
use Rattle.std.proofs.lemmas.Bool.{cases_lt}
use Rattle.outage_chronology.proofs.thresholds.threshold.Goals as goal

-- no threshold is 2^32 - 1, so that words compared as 2^32 - 2 at most stand on the same side of it
kept : (least part whole kept_as : ℕ)
    → 0 < whole
    → part ≤ whole
    → whole ≤ 2000000000
    → ((word : ℕ) → (word < least) ↔ (word * whole < part * 4294967296))
    → kept_as ≡ min least 4294967295
    → (word : ℕ)
    → word < 4294967296
    → (min word 4294967294 < kept_as) ↔ (word * whole < part * 4294967296)
kept least part whole kept_as some share most is as_min word small =
    let within : least ≤ 4294967296 =
    ⊎_elim (λ (l : 4294967296 < least). let beyond = (is 4294967296).0 l in absurd (omega arith)) (λ (g : least ≤ 4294967296). g) (cases_lt 4294967296 least) in
    let apart : least ≢ 4294967295 = (λ e.
    let below = (is 4294967294).0 (omega arith) in
    ⊎_elim (λ (l : 4294967295 * whole < part * 4294967296). let not_below = (is 4294967295).1 l in omega arith) (λ (g : part * 4294967296 ≤ 4294967295 * whole). omega arith) (cases_lt (4294967295 * whole) (part * 4294967296))) in
    (λ l. (is word).0 (omega (arith, apart)), λ l. let below = (is word).1 l in omega (arith, apart))

pub returns : goal.returns
returns c = kept c.least_word.result c.args.part c.args.whole c.min.result c.requires.some c.requires.share c.requires.most c.least_word.ensures (c.min.ensures ∙ ap (λ n. min c.least_word.result n) c.from.ensures)
