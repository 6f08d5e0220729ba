-- The names of a made system are plain and apart.
use Rattle.std.proofs.Common.{◌≡◌, ℕ, ◌<◌, ◌≤◌, ◌%◌, ◌^◌, true, List, [], ◌∷◌, length, get_or, sym, ap, ◌∙◌, arith}
use Rattle.std.proofs.lemmas.Bool.{and_from, le-leb}
use Rattle.std.proofs.lemmas.Fmt.{decimal_injective}
use Rattle.std.proofs.lemmas.List.FromFn.{get_or-map-range_with_len}
use Rattle.decimal_text.specs.DecimalText.{whole_text}
use Rattle.system_model.specs.System.{IsValid}
use Rattle.system_tables.specs.Tables.{Reads}
use Rattle.system_maker.specs.MadeSystem.{made_name, made_names, system_of_variant, made_system}
use Rattle.system_maker.specs.MadeTables.{made_tables}
use Rattle.system_maker.proofs.MadeLaws.{names-counted}
use Rattle.system_maker.proofs.PlainRecords.{is_plain}
use Rattle.system_maker.proofs.PlainFields.{whole_plain}
use Rattle.system_maker.proofs.PlainNames.{AreNoHours}
use Rattle.system_maker.proofs.PlainSystems.{ArePlainNames, IsPlainSystem}
use Rattle.system_maker.proofs.SystemRead.{plain_read}

name_is : (letter n k : ℕ) → k < n → get_or (made_names letter n) k [] ≡ made_name letter k
unfolding made_names
name_is letter n k lt = get_or-map-range_with_len (made_name letter) 0 n k k [] lt (omega arith)

-- a letter is plain, and so are the digits behind it
plain_name : (letter k : ℕ) → 46 ≤ letter → k < 2 ^ 64 → is_plain (made_name letter k) ≡ true
plain_name letter k high small = and_from _ _ (le-leb 46 letter high) (whole_plain k small)

same_name : (letter i k : ℕ) → i < 2 ^ 64 → k < 2 ^ 64 → made_name letter i ≡ made_name letter k → i ≡ k
same_name letter i k small low e =
    let digits : whole_text i ≡ whole_text k = cc in
    decimal_injective i k small low digits

names_plain : (letter n : ℕ) → 46 ≤ letter → n < 2 ^ 64 → ArePlainNames (made_names letter n)
names_plain letter n high small =
    let size : length (made_names letter n) ≡ n = names-counted letter n in
    record {
      plain = λ k lt.
          let among : k < n = omega arith in
          rw (name_is letter n k among) (plain_name letter k high (omega arith));
      apart = record {
        same = λ i k below lt e.
            let first : i < n = omega arith in
            let second : k < n = omega arith in
            same_name letter i k (omega arith) (omega arith) (sym (name_is letter n i first) ∙ e ∙ name_is letter n k second);
      };
    }

-- `Z` isn't `h`
letters : ◌≡◌ {A = ℕ} 90 104 → ⊥
letters e = omega arith

no_hours : (n : ℕ) → AreNoHours (made_names 90 n)
no_hours n k lt e =
    let size : length (made_names 90 n) ≡ n = names-counted 90 n in
    let among : k < n = omega arith in
    let same : made_name 90 k ≡ 104 ∷ (111 ∷ 117 ∷ 114 ∷ []) = sym (name_is 90 n k among) ∙ e in
    letters (ap (λ (name : List ℕ). get_or name 0 0) same)

variant_plain : (variant : ℕ) → IsValid (system_of_variant variant) → IsPlainSystem (system_of_variant variant)
unfolding system_of_variant
variant_plain variant valid =
    record {
      valid = valid;
      zones = names_plain 90 3 (omega arith) (omega arith);
      no_hours = no_hours 3;
      units = names_plain 85 96 (omega arith) (omega arith);
      interfaces = names_plain 73 3 (omega arith) (omega arith);
      lines = names_plain 76 5 (omega arith) (omega arith);
      storages = names_plain 83 2 (omega arith) (omega arith);
    }

-- the made tables are read as the made system
pub made_read : (number : ℕ) → IsValid (made_system number) → Reads (made_tables number) (made_system number)
made_read number valid = plain_read (made_system number) (variant_plain (number % 1000) valid)
