use Rattle.std.proofs.Common.{◌≡◌, pos, [], ◌∷◌, get_or, refl}
use Rattle.zone_network.specs.Sums.{inside, sum_where}
use Rattle.zone_network.specs.Network.{NetworkParts, into}
use Rattle.zone_network.specs.Dispatch.{Dispatch, compared_list, total_unserved}
use Rattle.zone_network.specs.Cut.{IsTight}

-- 70 MW in the first of two zones that ask for 40 and 50 MW, with a link of 30 MW from the first to the second
pair : NetworkParts
pair =
    record {
      shape = record { zones = 2; ends = record { from = 0; to = 1 } ∷ []; device_zones = [] };
      supplies = 70 ∷ 0 ∷ [];
      loads = 40 ∷ 50 ∷ [];
      forwards = 30 ∷ [];
      backwards = 0 ∷ [];
      discharge_caps = [];
      charge_caps = [];
    }

-- the first zone is served, and the link is full
pair_served : Dispatch
pair_served =
    record {
      generation = λ z. get_or (70 ∷ 0 ∷ []) z 0;
      served = λ z. get_or (40 ∷ 30 ∷ []) z 0;
      discharge = λ k. 0;
      charge = λ k. 0;
      flow = λ l. pos 30;
    }

pair-lacks : compared_list pair pair_served ≡ 0 ∷ 20 ∷ []
unfolding pair pair_served
pair-lacks = refl

pair-total : total_unserved pair pair_served ≡ 20
unfolding pair pair_served sum_where
pair-total = refl

-- the second zone alone is tight, and so are both
pair-tight : IsTight pair 20 (inside 2) × IsTight pair 20 (inside 3)
unfolding pair sum_where
pair-tight = (refl, refl)

-- nothing comes into both from outside, and 30 MW into the second
pair-into : (into pair (inside 3) ≡ 0) × (into pair (inside 2) ≡ 30)
unfolding pair sum_where
pair-into = (refl, refl)

-- 10 MW in the middle of three zones in a row, and 10 MW asked at either end
row : NetworkParts
row =
    record {
      shape =
          record {
            zones = 3;
            ends = record { from = 0; to = 1 } ∷ record { from = 1; to = 2 } ∷ [];
            device_zones = [];
          };
      supplies = 0 ∷ 10 ∷ 0 ∷ [];
      loads = 10 ∷ 0 ∷ 10 ∷ [];
      forwards = 10 ∷ 10 ∷ [];
      backwards = 10 ∷ 10 ∷ [];
      discharge_caps = [];
      charge_caps = [];
    }

-- of the sets that hold both ends and lack 10 MW, all three zones alone are tight
row-tight : IsTight row 10 (inside 7)
unfolding row sum_where
row-tight = refl
