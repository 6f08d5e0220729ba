-- Small cases that the definitions compute, each known by hand.
use Rattle.std.specs.Prelude.{◌≡◌, true, false, [], ◌∷◌, map, refl}
use Rattle.system_model.specs.declared.components.Rates.{Rates}
use Rattle.outage_chronology.specs.Outages.{is_up_with}

-- a component that always fails and is always repaired is up every other hour, out first where its
-- first word is below a half of 2^32
abbrev every_other : Rates
every_other = record { f = 1000000000; r = 1000000000 }

pub every_other_hour : map (is_up_with every_other (λ _. 12345)) (0 ∷ 1 ∷ 2 ∷ []) ≡ false ∷ true ∷ false ∷ []
unfolding is_up_with
every_other_hour = refl

pub every_other_hour_up_first : map (is_up_with every_other (λ _. 2147483648)) (0 ∷ 1 ∷ 2 ∷ []) ≡ true ∷ false ∷ true ∷ []
unfolding is_up_with
every_other_hour_up_first = refl
