use Rattle.std.proofs.Common.{◌≡◌, ℕ, ◌||◌, Bool, true, false, not, List, [], ◌∷◌, length, map, refl, sym, ap, ◌∙◌, position}
use Rattle.std.specs.Global.{Vec}
use Rattle.std.specs.List.{list_any, position_or_len}
use Rattle.std.specs.Str.{bytes_eq}
use Rattle.std.proofs.lemmas.Bool.{false≢true}
use Rattle.std.proofs.lemmas.List.{length-map}

pub list_any-keys : (name : List ℕ) (keys : List (Vec ℕ))
    → list_any (λ k. bytes_eq name k.items) keys ≡ list_any (bytes_eq name) (map (λ k. k.items) keys)
list_any-keys name [] = refl
list_any-keys name (k ∷ ks) = ap (λ b. bytes_eq name k.items || b) (list_any-keys name ks)

position_or_len-keys : (name : List ℕ) (keys : List (Vec ℕ))
    → position_or_len (λ k. bytes_eq name k.items) keys ≡ position_or_len (bytes_eq name) (map (λ k. k.items) keys)
position_or_len-keys name [] = refl
position_or_len-keys name (k ∷ ks) = rw (position_or_len-keys name ks) refl

pub position-keys : (name : List ℕ) (keys : List (Vec ℕ))
    → position (λ k. bytes_eq name k.items) keys ≡ position (bytes_eq name) (map (λ k. k.items) keys)
position-keys name keys =
    let size : length (map (λ (k : Vec ℕ). k.items) keys) ≡ length keys = length-map keys (λ k. k.items) in
    rw (size, position_or_len-keys name keys) refl

pub not-true : (b x : Bool) → b ≡ not x → b ≡ true → x ≡ false
not-true b true e h = absurd (false≢true (sym e ∙ h))
not-true b false e h = refl

pub not-false : (b x : Bool) → b ≡ not x → b ≡ false → x ≡ true
not-false b true e h = refl
not-false b false e h = absurd (false≢true (sym h ∙ e))
