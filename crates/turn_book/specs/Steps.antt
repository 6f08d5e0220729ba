-- What single steps tell the seat that makes them.
use Rattle.std.specs.Prelude.{◌≡◌, ℕ, ◌==◌, false, List, ◌∷◌, length, Option, Some, MatchBool}
use mathlib.Core.List.{IsPrefix}
use Rattle.atomic_table.specs.Table.{Me, Step, rest}
use Rattle.campaign_core.specs.declared.gate.Gate.{Gate}
use Rattle.campaign_core.specs.declared.run.SampleRange.{SampleRange}
use Rattle.campaign_core.specs.declared.call.Call.{Call}
use Rattle.campaign_core.specs.declared.call.Call.TheVariants.{Deposit}
use Rattle.campaign_core.specs.History.{deposits_of}
use Rattle.turn_book.specs.declared.view.View.{View}
use Rattle.turn_book.specs.Words.{gate_word, turn_word, IsGate}
use Rattle.turn_book.specs.Views.{Sees, Makes, Looks, Takes, Deposits, IsSound, with_hold, settled}

-- a seat with the slots that it has taken
abbrev pub Carrier : Type 0 → Type 0
Carrier B = Me (Option B) (View B)

-- the word that was found is that of a gate, of which a fact holds
abbrev pub Found : ℕ → (Gate → Type 0) → Type 0
Found word fact = (g : Gate) × IsGate g × (word ≡ gate_word g) × fact g

module _ {B : Type 0} where
  abbrev pub Looked : Call → Step (Option B) → Carrier B → ℕ → Carrier B → Type 0
  Looked call st m word w = (w.1 ≡ m.1) × Found word (λ g. Looks m.0 call g w.0)

  abbrev pub Exchanged : Call → Step (Option B) → Carrier B → ℕ → Carrier B → Type 0
  Exchanged call st m word w =
      (w.1 ≡ m.1) × Found word (λ g. MatchBool (word == st.first) (Makes m.0 call g w.0) (Sees m.0 g w.0))

  abbrev pub Marks : Call → Step (Option B) → Carrier B → ℕ → Carrier B → Type 0
  Marks call st m word w = (w.1 ≡ m.1) × Found word (λ g. Makes m.0 call g w.0)

  abbrev pub Took : {L : Type 0} → (B → List SampleRange → Type 0) → (B → L)
      → Step (Option B) → Carrier B → ℕ → Carrier B → Type 0
  Took keeps label st m word w =
      MatchBool (word == st.first)
      ((book : B) × (w.1 ≡ (0, Some book) ∷ m.1) × Takes m.0 w.0 × keeps book (deposits_of w.0.seen)
      × ((first : B) → m.0.first ≡ Some first → label book ≡ label first)
      × (word ≡ turn_word false (length (deposits_of w.0.seen))))
      (w ≡ m)

  abbrev pub Left : Step (Option B) → Carrier B → ℕ → Carrier B → Type 0
  Left st m word w = (w.0 ≡ with_hold false m.0) × (w.1 ≡ rest m.1)

  abbrev pub PutBack : Call → Step (Option B) → Carrier B → ℕ → Carrier B → Type 0
  PutBack call st m word w =
      (w.1 ≡ rest m.1)
      × ((first count number : ℕ) → call ≡ Deposit first count → st.first ≡ turn_word false number
      → Deposits m.0 first count number w.0)

  abbrev pub Settled : Step (Option B) → Carrier B → ℕ → Carrier B → Type 0
  Settled st m word w = (w ≡ (settled m.0, m.1)) × IsPrefix m.0.also m.0.seen × IsSound w.0
