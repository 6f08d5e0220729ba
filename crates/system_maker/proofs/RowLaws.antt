-- Records that were written field by field.
use Rattle.std.proofs.Common.{◌≡◌, ℕ, List, [], ◌∷◌, ◌++◌, Result, Ok, Err, append_assoc}
use Rattle.std.specs.Prelude.{OnOk}
use Rattle.std.specs.List.{flat_map}
use Rattle.decimal_text.specs.DecimalText.{whole_text}
use Rattle.system_model.specs.declared.components.Line.{Line}
use Rattle.system_model.specs.declared.components.Storage.{Storage}
use Rattle.system_model.specs.System.{SystemParts, line_at, line_name_at, interface_name_at, storage_at, storage_name_at, zone_name_at}
use Rattle.system_maker.specs.PlainTables.{next_field, record_text, rate_text, share_text, line_row, storage_row, size_fields, share_fields}

pub on_ok : {A E : Type 0} (r : Result A E) (P Q : Type 0) → OnOk r P → (P → Q) → OnOk r Q
on_ok (Ok x) P Q p f = f p
on_ok (Err e) P Q p f = tt

line_pieces : (a n l f g p q e : List ℕ)
    → a ++ n ++ l ++ f ++ g ++ p ++ q ++ e ≡ a ++ (n ++ (l ++ (f ++ (g ++ (p ++ (q ++ []))))) ++ e)
line_pieces a n l f g p q e = simp append_assoc

storage_pieces : (a n z s t u v h i j p q e : List ℕ)
    → a ++ n ++ z ++ (s ++ (t ++ (u ++ (v ++ [])))) ++ (h ++ (i ++ (j ++ []))) ++ p ++ q ++ e
    ≡ a ++ (n ++ (z ++ (s ++ (t ++ (u ++ (v ++ (h ++ (i ++ (j ++ (p ++ (q ++ [])))))))))) ++ e)
storage_pieces a n z s t u v h i j p q e = simp append_assoc

pub line_written : (s : SystemParts) (at : ℕ) (line : Line) (a b c d e name link : List ℕ)
    → line ≡ line_at s at
    → name ≡ line_name_at s at
    → link ≡ interface_name_at s line.interface
    → b ≡ a ++ name
    → c ≡ b ++ next_field link
    → d ≡ c ++ next_field (whole_text line.forward) ++ next_field (whole_text line.backward)
    → e ≡ d ++ next_field (rate_text line.rates.f) ++ next_field (rate_text line.rates.r) ++ 10 ∷ []
    → e ≡ a ++ record_text (line_row s at)
unfolding line_row
line_written s at line a b c d e name link is named linked first second third last =
    rw (last, third, second, first, linked, named, is)
    (line_pieces a (line_name_at s at) (next_field (interface_name_at s (line_at s at).interface)) (next_field (whole_text (line_at s at).forward))
    (next_field (whole_text (line_at s at).backward)) (next_field (rate_text (line_at s at).rates.f)) (next_field (rate_text (line_at s at).rates.r)) (10 ∷ []))

pub storage_written : (s : SystemParts) (at : ℕ) (storage : Storage) (a b c d e f name zone : List ℕ)
    → storage ≡ storage_at s at
    → name ≡ storage_name_at s at
    → zone ≡ zone_name_at s storage.zone
    → b ≡ a ++ name
    → c ≡ b ++ next_field zone
    → d ≡ c ++ flat_map next_field (size_fields storage)
    → e ≡ d ++ flat_map next_field (share_fields storage)
    → f ≡ e ++ next_field (rate_text storage.rates.f) ++ next_field (rate_text storage.rates.r) ++ 10 ∷ []
    → f ≡ a ++ record_text (storage_row s at)
unfolding storage_row
storage_written s at storage a b c d e f name zone is named placed first second third fourth last =
    rw (last, fourth, third, second, first, placed, named, is)
    (storage_pieces a (storage_name_at s at) (next_field (zone_name_at s (storage_at s at).zone)) (next_field (whole_text (storage_at s at).charge))
    (next_field (whole_text (storage_at s at).discharge)) (next_field (whole_text (storage_at s at).energy)) (next_field (whole_text (storage_at s at).start))
    (next_field (share_text (storage_at s at).charge_eff)) (next_field (share_text (storage_at s at).discharge_eff)) (next_field (share_text (storage_at s at).carry))
    (next_field (rate_text (storage_at s at).rates.f)) (next_field (rate_text (storage_at s at).rates.r)) (10 ∷ []))
