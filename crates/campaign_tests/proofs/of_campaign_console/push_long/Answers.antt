use Rattle.std.proofs.Common.{◌≡◌, ℕ, Contains, replicate, sym, ◌∙◌, arith}
use Rattle.std.proofs.lemmas.List.{get_or-replicate, length-replicate}
use Rattle.campaign_tests.proofs.of_campaign_console.push_long.Goals as goal

-- so many times the same has nothing else
not_there : (n x y : ℕ) → (x ≡ y → ⊥) → Contains (replicate n x) y → ⊥
not_there n x y differ has = differ (sym (get_or-replicate n has.0 x y (omega (arith, has.1, length-replicate n x))) ∙ has.2)

pub push-requires : goal.push-requires
push-requires c has = not_there 5000 120 10 (λ e. omega (arith, e)) has
