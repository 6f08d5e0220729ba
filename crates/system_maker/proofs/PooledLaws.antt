-- The units of a made system have 7,200 MW together, whatever the number is.
use Rattle.std.proofs.Common.{◌≡◌, ℕ, zero, suc, ◌+◌, ◌*◌, ◌%◌, ◌<◌, refl, sym, ap, ◌∙◌, arith}
use Rattle.system_model.specs.Components.{pooled_capacity}
use Rattle.system_maker.specs.MadeSystem.{made_units}
use Rattle.system_maker.proofs.MadeLaws.{units-none, capacity-more}

-- the rest by 12 tells the capacities
same_capacity : (variant at : ℕ) → (5 * at + variant) % 12 ≡ (5 * at + variant % 12) % 12
same_capacity variant at = omega arith

same_pooled : (variant n : ℕ) → pooled_capacity (made_units variant n) ≡ pooled_capacity (made_units (variant % 12) n)
same_pooled variant zero = rw (units-none variant, units-none (variant % 12)) refl
same_pooled variant (suc n) =
    let more : suc n ≡ n + 1 = omega arith in
    ap (λ (k : ℕ). pooled_capacity (made_units variant k)) more
    ∙ capacity-more variant n
    ∙ (λ i. same_pooled variant n i + (20 + 10 * same_capacity variant n i))
    ∙ sym (capacity-more (variant % 12) n)
    ∙ ap (λ (k : ℕ). pooled_capacity (made_units (variant % 12) k)) (sym more)

twelve : (rest : ℕ) → rest < 12 → pooled_capacity (made_units rest 96) ≡ 7200
unfolding made_units
twelve zero lt = refl
twelve (suc zero) lt = refl
twelve (suc (suc zero)) lt = refl
twelve (suc (suc (suc zero))) lt = refl
twelve (suc (suc (suc (suc zero)))) lt = refl
twelve (suc (suc (suc (suc (suc zero))))) lt = refl
twelve (suc (suc (suc (suc (suc (suc zero)))))) lt = refl
twelve (suc (suc (suc (suc (suc (suc (suc zero))))))) lt = refl
twelve (suc (suc (suc (suc (suc (suc (suc (suc zero)))))))) lt = refl
twelve (suc (suc (suc (suc (suc (suc (suc (suc (suc zero))))))))) lt = refl
twelve (suc (suc (suc (suc (suc (suc (suc (suc (suc (suc zero)))))))))) lt = refl
twelve (suc (suc (suc (suc (suc (suc (suc (suc (suc (suc (suc zero))))))))))) lt = refl
twelve (suc (suc (suc (suc (suc (suc (suc (suc (suc (suc (suc (suc rest)))))))))))) lt = absurd (omega arith)

pub units_pooled : (variant : ℕ) → pooled_capacity (made_units variant 96) ≡ 7200
units_pooled variant = same_pooled variant 96 ∙ twelve (variant % 12) (omega arith)
