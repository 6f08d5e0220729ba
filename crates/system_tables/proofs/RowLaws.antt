use Rattle.std.proofs.Common.{◌≡◌, ℕ, zero, suc, List, [], ◌∷◌, map, get_or, None, Some, refl, ap}
use Rattle.std.specs.Borrow.{Bor}
use Rattle.csv.specs.Records.{field_at}
use Rattle.system_tables.specs.Records.{without_spaces}

pub field-is : (fields : List (List ℕ)) (at : ℕ) (s : Bor (List ℕ))
    → Some s.now ≡ field_at fields at
    → without_spaces s.now ≡ get_or (map without_spaces fields) at []
unfolding field_at
field-is [] at s e = absurd (cc)
field-is (f ∷ fs) zero s e =
    let is : s.now ≡ f = cc in
    ap without_spaces is
field-is (f ∷ fs) (suc at) s e = field-is fs at s e

pub no-field : (fields : List (List ℕ)) (at : ℕ)
    → None ≡ field_at fields at
    → [] ≡ get_or (map without_spaces fields) at []
unfolding field_at
no-field [] at e = refl
no-field (f ∷ fs) zero e = absurd (cc)
no-field (f ∷ fs) (suc at) e = no-field fs at e
