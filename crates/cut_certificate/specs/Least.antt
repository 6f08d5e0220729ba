-- the least load that can stay unserved
use Rattle.std.specs.Prelude.{ℕ, ◌≤◌}
use Rattle.zone_network.specs.Network.{NetworkParts}
use Rattle.zone_network.specs.Dispatch.{Dispatch, IsFeasible, total_unserved}

-- no feasible dispatch leaves less load unserved
abbrev pub IsLeastUnserved : NetworkParts → ℕ → Type 0
IsLeastUnserved n unserved = (other : Dispatch) → IsFeasible n other → unserved ≤ total_unserved n other
