-- flows by link and spare amounts by zone, and what moves
use Rattle.std.specs.Prelude.{◌≡◌, ◌≢◌, ℕ, ℤ, pos, ◌+◌, ◌<◌, ◌≤◌, Bool, if◌then◌else◌, List, length, replicate, slice_index, slice_index_or}
use Rattle.zone_network.specs.Network.{ShapeParts, NetworkParts, IsShape, link_count, forward_of, backward_of, inflow, outflow, forward_at, backward_at}

-- a signed flow for each link, forward being positive, and for each zone an amount that it still has to give
pub record FlowParts : Type 0 where
  pub shape : ShapeParts
  pub flows : List ℤ
  pub spares : List ℕ

-- each link has a flow and each zone a spare amount
pub record IsFlow (f : FlowParts) : Type 0 where
  pub shape : IsShape f.shape
  pub flows : length f.flows ≡ link_count f.shape
  pub spares : length f.spares ≡ f.shape.zones

-- no flow and nothing to give
abbrev pub no_flow : ShapeParts → FlowParts
no_flow s = record { shape = s; flows = replicate (link_count s) (pos 0); spares = replicate s.zones 0 }

-- the flow of a link and what a zone still has to give, in MW
abbrev pub flow_at : FlowParts → ℕ → ℤ
flow_at f l = slice_index_or f.flows l (pos 0)

abbrev pub spare_at : FlowParts → ℕ → ℕ
spare_at f z = slice_index f.spares z

-- what a signed flow carries one way: forward or backward
abbrev pub carried : ℤ → Bool → ℕ
carried flow forward = if forward then forward_of flow else backward_of flow

-- a link's limit one way
abbrev pub limit_at : NetworkParts → ℕ → Bool → ℕ
limit_at n l forward = if forward then forward_at n l else backward_at n l

-- each flow is within its link's limits, each way
pub record IsWithinLimits (n : NetworkParts) (f : FlowParts) : Type 0 where
  pub ways : (l : ℕ) (forward : Bool) → l < link_count n.shape → carried (flow_at f l) forward ≤ limit_at n l forward

-- in each zone but the goal the net outflow rose by just what its spare fell, and in the goal the net inflow rose
-- by the amount moved less what its own spare gave; no spare rose
pub record Moves (s : ShapeParts) (old new : FlowParts) (goal moved : ℕ) : Type 0 where
  pub others :
      (z : ℕ)
      → z ≢ goal
      → outflow s (flow_at new) z + inflow s (flow_at old) z + spare_at new z
      ≡ outflow s (flow_at old) z + inflow s (flow_at new) z + spare_at old z
  pub arrives :
      inflow s (flow_at new) goal + outflow s (flow_at old) goal + spare_at old goal
      ≡ inflow s (flow_at old) goal + outflow s (flow_at new) goal + moved + spare_at new goal
  pub fell : (z : ℕ) → spare_at new z ≤ spare_at old z
