use Rattle.std.proofs.Common.{◌≡◌, ℕ, ◌+◌, ◌<◌, ◌≤◌, ◌^◌, inl, inr, Bool, true, false, length, get_or, refl, sym, ◌∙◌, arith, subst}
use Rattle.std.specs.Prelude.{IsTrue}
use Rattle.std.proofs.lemmas.Bool.{cases_eq, false≢true}
use Rattle.zone_network.specs.Sums.{inside}
use Rattle.zone_network.specs.Masks.{AddsNumber}
use Rattle.zone_network.specs.Network.{NetworkParts, IsShape, link_count, links_of}
use Rattle.zone_network.proofs.MaskLemmas.{inside_zero}
use Rattle.transfer_flow.specs.Flow.{FlowParts}
use Rattle.transfer_flow.specs.Reach.{room, way, start_of, end_of, IsReachTo, IsReachFrom}
use Rattle.transfer_flow.specs.Draw.{IsEntered}
use Rattle.transfer_flow.specs.Spread.{IsPassed, Spreads}
use Rattle.transfer_flow.proofs.WayLemmas.{end_among}
use Rattle.transfer_flow.proofs.DrawLemmas.{entered-grown, entered-listed, marked-grown}

-- how far the walk from a zone has come: it went along the first so many of its links
pub record SpreadsSoFar (n : NetworkParts) (f : FlowParts) (towards : Bool) (zone before after upto : ℕ) : Type 0 where
  pub spreads : Spreads n f towards before after
  pub entered : (k : ℕ) → k < upto → IsEntered n f towards after zone (get_or (links_of n.shape zone) k 0)

passed-grown : (n : NetworkParts) (f : FlowParts) (towards : Bool) (before after z : ℕ)
    → ((w : ℕ) → IsTrue (inside before w) → IsTrue (inside after w))
    → IsPassed n f towards before z
    → IsPassed n f towards after z
passed-grown n f towards before after z grown h =
    record { links = λ l below. entered-grown n f towards before after z l grown (h.links l below) }

-- nothing new was seen
pub spreads-none : (n : NetworkParts) (f : FlowParts) (towards : Bool) (seen : ℕ)
    → seen < 2 ^ n.shape.zones
    → Spreads n f towards seen seen
spreads-none n f towards seen among =
    record {
      among = among;
      above = omega arith;
      grown = λ z h. h;
      passed = λ z h. inl h;
      least = λ zones closed start z h. start z h;
    }

-- one walk after another
pub spreads-then : (n : NetworkParts) (f : FlowParts) (towards : Bool) (before between after : ℕ)
    → Spreads n f towards before between
    → Spreads n f towards between after
    → Spreads n f towards before after
spreads-then n f towards before between after a b =
    record {
      among = b.among;
      above = omega (arith, a.above, b.above);
      grown = λ z h. b.grown z (a.grown z h);
      passed =
          λ z h.
          elim (b.passed z h) [
            | inl earlier ↦
                elim (a.passed z earlier) [
                  | inl first ↦ inl first
                  | inr passed ↦ inr (passed-grown n f towards between after z b.grown passed)
                ]
            | inr passed ↦ inr passed
          ];
      least = λ zones closed start z h. b.least zones closed (a.least zones closed start) z h;
    }

pub spreads-more : (n : NetworkParts) (f : FlowParts) (towards : Bool) (zone before between after upto : ℕ)
    → SpreadsSoFar n f towards zone before between upto
    → Spreads n f towards between after
    → IsEntered n f towards after zone (get_or (links_of n.shape zone) upto 0)
    → SpreadsSoFar n f towards zone before after (upto + 1)
spreads-more n f towards zone before between after upto a b entered =
    record {
      spreads = spreads-then n f towards before between after a.spreads b;
      entered =
          λ k below.
          elim (cases_eq k upto) [
            | inl here ↦ subst (λ (i : ℕ). IsEntered n f towards after zone (get_or (links_of n.shape zone) i 0)) (sym here) entered
            | inr other ↦
                entered-grown n f towards between after zone (get_or (links_of n.shape zone) k 0) b.grown (a.entered k (omega arith))
          ];
    }

-- at the zone's last link
pub spreads-own : (n : NetworkParts) (f : FlowParts) (towards : Bool) (zone before after upto : ℕ)
    → SpreadsSoFar n f towards zone before after upto
    → length (links_of n.shape zone) ≤ upto
    → IsPassed n f towards after zone
spreads-own n f towards zone before after upto h all =
    record { links = λ l below. entered-listed n f towards after zone l (λ k less. h.entered k (omega arith)) below }

-- a walk along a link with room from a zone that was seen
pub spreads-along : (n : NetworkParts) (f : FlowParts) (towards : Bool) (link : ℕ) (forward : Bool) (seen marked after : ℕ)
    → link < link_count n.shape
    → IsTrue (inside seen (end_of n.shape link forward))
    → 0 < room n f link (way towards forward)
    → AddsNumber seen (start_of n.shape link forward) marked
    → Spreads n f towards marked after
    → IsPassed n f towards after (start_of n.shape link forward)
    → Spreads n f towards seen after
spreads-along n f towards link forward seen marked after below there room' adds spreads own =
    record {
      among = spreads.among;
      above = omega (arith, adds.above, spreads.above);
      grown = λ z h. spreads.grown z (marked-grown seen (start_of n.shape link forward) marked adds z h);
      passed =
          λ z h.
          elim (spreads.passed z h) [
            | inl earlier ↦
                elim (cases_eq z (start_of n.shape link forward)) [
                  | inl here ↦ inr (subst (λ (w : ℕ). IsPassed n f towards after w) (sym here) own)
                  | inr apart ↦ inl (sym (adds.others z apart) ∙ earlier)
                ]
            | inr passed ↦ inr passed
          ];
      least =
          λ zones closed start z h.
          spreads.least zones closed
          (λ w h'.
          elim (cases_eq w (start_of n.shape link forward)) [
            | inl here ↦
                subst (λ (x : ℕ). IsTrue (zones x)) (sym here)
                (closed.through link forward below room' (start (end_of n.shape link forward) there))
            | inr apart ↦ start w (sym (adds.others w apart) ∙ h')
          ])
          z h;
    }

-- how far the walks from a mask have come: they went on from those of its zones that are below this number
pub record SpreadsFrom (n : NetworkParts) (f : FlowParts) (start mask upto : ℕ) : Type 0 where
  pub spreads : Spreads n f false start mask
  pub passed : (z : ℕ) → z < upto → IsTrue (inside start z) → IsPassed n f false mask z

-- a walk from one zone more
pub spreads-zone : (n : NetworkParts) (f : FlowParts) (start between after zone : ℕ)
    → SpreadsFrom n f start between zone
    → Spreads n f false between after
    → IsPassed n f false after zone
    → SpreadsFrom n f start after (zone + 1)
spreads-zone n f start between after zone before spreads own =
    record {
      spreads = spreads-then n f false start between after before.spreads spreads;
      passed =
          λ z below h.
          elim (cases_eq z zone) [
            | inl here ↦ subst (λ (w : ℕ). IsPassed n f false after w) (sym here) own
            | inr other ↦ passed-grown n f false between after z spreads.grown (before.passed z (omega arith) h)
          ];
    }

-- a zone that the mask doesn't hold is passed over
pub spreads-past : (n : NetworkParts) (f : FlowParts) (start mask zone : ℕ)
    → SpreadsFrom n f start mask zone
    → inside start zone ≡ false
    → SpreadsFrom n f start mask (zone + 1)
spreads-past n f start mask zone before outside =
    record {
      spreads = before.spreads;
      passed =
          λ z below h.
          elim (cases_eq z zone) [
            | inl here ↦ absurd (false≢true (sym outside ∙ subst (λ (w : ℕ). IsTrue (inside start w)) here h))
            | inr other ↦ before.passed z (omega arith) h
          ];
    }

-- a walk from every zone of a mask
pub spreads-all : (n : NetworkParts) (f : FlowParts) (start after : ℕ)
    → IsShape n.shape
    → SpreadsFrom n f start after n.shape.zones
    → IsReachFrom n f start after
spreads-all n f start after valid h =
    let passed : (w : ℕ) → w < n.shape.zones → IsTrue (inside after w) → IsPassed n f false after w =
    λ w below at.
    elim (h.spreads.passed w at) [
      | inl earlier ↦ h.passed w below earlier
      | inr found ↦ found
    ] in
    record {
      among = h.spreads.among;
      itself = h.spreads.grown;
      closed =
          record {
            through =
                λ l forward below room' at.
                ((passed (end_of n.shape l forward) (end_among n.shape l forward valid below) at).links l below).ways forward refl room';
          };
      least = h.spreads.least;
    }

-- a walk from the goal alone
pub spreads-goal : (n : NetworkParts) (f : FlowParts) (goal seen after : ℕ)
    → AddsNumber 0 goal seen
    → Spreads n f true seen after
    → IsPassed n f true after goal
    → IsReachTo n f goal after
spreads-goal n f goal seen after adds spreads own =
    let first : (w : ℕ) → IsTrue (inside seen w) → w ≡ goal =
    λ w h.
    elim (cases_eq w goal) [
      | inl here ↦ here
      | inr apart ↦ absurd (false≢true (sym (inside_zero w) ∙ sym (adds.others w apart) ∙ h))
    ] in
    let passed : (w : ℕ) → IsTrue (inside after w) → IsPassed n f true after w =
    λ w h.
    elim (spreads.passed w h) [
      | inl earlier ↦ subst (λ (x : ℕ). IsPassed n f true after x) (sym (first w earlier)) own
      | inr found ↦ found
    ] in
    record {
      among = spreads.among;
      itself = spreads.grown goal adds.itself;
      closed =
          record {
            through = λ l forward below room' at. ((passed (end_of n.shape l forward) at).links l below).ways forward refl room';
          };
      least =
          λ z h zones closed there.
          spreads.least zones closed (λ w h'. subst (λ (x : ℕ). IsTrue (zones x)) (sym (first w h')) there) z h;
    }
