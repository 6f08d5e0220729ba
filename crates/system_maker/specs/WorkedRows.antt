-- Parts of made systems worked out by hand, computed from the definitions.
use Rattle.std.specs.Prelude.{◌≡◌, refl}
use Rattle.system_maker.specs.MadeSystem.{variant_of, made_unit, made_load, made_variable}

-- the first and the last unit of the number 20
pub first_unit : made_unit (variant_of 20) 0 ≡ record { zone = 0; capacity = 100; rates = record { f = 500000; r = 20000000 } }
first_unit = refl

pub last_unit : made_unit (variant_of 20) 95 ≡ record { zone = 2; capacity = 50; rates = record { f = 2000000; r = 20000000 } }
last_unit = refl

-- the hours in which the need is greatest: 3 * 2140 MW for 20, and 30 MW less for 7
pub load_of_20 : made_load (variant_of 20) 180 ≡ 2140
load_of_20 = refl

pub variable_of_20 : made_variable (variant_of 20) 180 ≡ 0
variable_of_20 = refl

pub load_of_7 : made_load (variant_of 7) 828 ≡ 2140
load_of_7 = refl

pub variable_of_7 : made_variable (variant_of 7) 828 ≡ 30
variable_of_7 = refl

-- only the rest by 1,000 counts
pub variant_of_7007 : variant_of 7007 ≡ 7
variant_of_7007 = refl
