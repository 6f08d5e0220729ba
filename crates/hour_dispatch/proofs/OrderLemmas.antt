use Rattle.std.proofs.Common.{◌≡◌, ◌≢◌, ℕ, ◌+◌, ◌<◌, false, arith}
use Rattle.std.specs.Prelude.{IsTrue}
use Rattle.std.proofs.lemmas.Bool.{lt-ltb}
use Rattle.std.proofs.lemmas.Bool.Decides.{nat_tests}
use Rattle.zone_network.specs.Network.{ShapeParts}
use Rattle.zone_network.specs.Dispatch.{not_after, first_served}

-- All that is known of the serving order stands here.

-- the next zone is served, and wasn't before
pub served-itself : (s : ShapeParts) (z : ℕ) → IsTrue (first_served s (z + 1) z)
served-itself s z = lt-ltb z (z + 1) (omega arith)

pub served-not_yet : (s : ShapeParts) (z : ℕ) → first_served s z z ≡ false
served-not_yet s z = grind (arith, nat_tests)

-- another zone is served as before
pub served-other : (s : ShapeParts) (z j : ℕ) → j ≢ z → first_served s (z + 1) j ≡ first_served s z j
served-other s z j other = grind (arith, nat_tests)

-- up to a zone those are served that don't stand after it
pub served-upto : (s : ShapeParts) (z j : ℕ) → first_served s (z + 1) j ≡ not_after s z j
served-upto s z j = grind (arith, nat_tests)

-- what doesn't stand after a zone that was served was served
pub served-earlier : (s : ShapeParts) (z j i : ℕ) → IsTrue (first_served s z j) → IsTrue (not_after s j i) → IsTrue (first_served s z i)
served-earlier s z j i h k = grind (arith, nat_tests)

-- in the end all zones were served
pub served-all : (s : ShapeParts) (j : ℕ) → j < s.zones → IsTrue (first_served s s.zones j)
served-all s j below = lt-ltb j s.zones below

-- at first none
pub served-none : (s : ShapeParts) (j : ℕ) → first_served s 0 j ≡ false
served-none s j = grind (arith, nat_tests)
