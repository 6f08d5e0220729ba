-- What seats have seen and done, and how a step changes it.
use Rattle.std.specs.Prelude.{◌≡◌, ℕ, ◌+◌, ◌-◌, ◌<◌, ◌≤◌, ◌==◌, ◌⊎◌, Bool, true, false, List, [], ◌∷◌, ◌++◌, count_by, length, Some, None, MatchBool, if◌then◌else◌, nat_lt}
use Rattle.std.specs.List.{list_any}
use mathlib.Core.List.{IsPrefix}
use Rattle.ra_base.specs.declared.limits.TheConstants.{MOST_SAMPLES, MOST_BLOCK}
use Rattle.campaign_core.specs.declared.gate.Gate.{Gate}
use Rattle.campaign_core.specs.declared.run.SampleRange.{SampleRange}
use Rattle.campaign_core.specs.declared.call.Call.{Call}
use Rattle.campaign_core.specs.declared.call.Call.TheVariants.{Claim, Extend, Seal, Cancel, Deposit}
use Rattle.campaign_core.specs.declared.call.Call.TheVariants.{Progress as AskProgress, Interim as AskInterim}
use Rattle.campaign_core.specs.declared.call.Reply.{Reply}
use Rattle.campaign_core.specs.declared.call.Reply.TheVariants.{Range, Now}
use Rattle.campaign_core.specs.declared.call.Entry.{Entry}
use Rattle.campaign_core.specs.Ranges.{range, has_range}
use Rattle.campaign_core.specs.History.{entry, reply_of, gate_of, ranges_of, deposits_of, out_of, calls_of, IsLegal}
use Rattle.campaign_core.specs.Machine.{gate_after}
use Rattle.turn_book.specs.declared.view.View.{View}
use Rattle.turn_book.specs.Words.{IsGate}

-- how often a number stands in a list
abbrev pub how_often : ℕ → List ℕ → ℕ
how_often n numbers = count_by (λ m. m == n) numbers

-- whether a reply to a call takes an exchange of the gate: a claim that gives a range, an extension that
-- raises
abbrev pub takes_exchange : Reply → Bool
takes_exchange (Range first count) = true
takes_exchange (Now target) = true
takes_exchange other = false

-- the call that leads from a gate to another by an exchange
abbrev pub call_between : Gate → Gate → Call
call_between old new = if old.next == new.next then Extend (new.target - old.target) else Claim

-- a gate follows from another by a claim that gives a range or by an extension that raises
abbrev pub IsExchange : ℕ → Gate → Gate → Type 0
IsExchange block old new =
    let reply = reply_of block old [] (call_between old new) in
    IsGate old × IsGate new × (takes_exchange reply ≡ true)
    × (new ≡ gate_after old (call_between old new) reply)

module _ {B : Type 0} where
  -- the numbers of a seat and of those that were joined into it
  abbrev pub numbers_of : View B → List ℕ
  numbers_of v = v.number ∷ v.joined

  abbrev pub owns : View B → ℕ → Bool
  owns v n = list_any (λ m. m == n) (numbers_of v)

  -- the view with a longer history
  abbrev pub with_seen : View B → List Entry → View B
  with_seen v seen = record v { seen = seen }

  -- the view with a longer history, and then a call of the seat's own
  abbrev pub with_call : View B → List Entry → Entry → View B
  with_call v before e = record v { seen = before ++ e ∷ []; calls = v.calls ++ e ∷ [] }

  -- the same, and the book held or not
  abbrev pub with_hold : Bool → View B → View B
  with_hold holds v = record v { holds = holds }

  -- the opening seat's view with one more seat made
  abbrev pub with_made : View B → View B
  with_made v = record v { made = v.made + 1 }

  -- a new seat's view: it has seen what the opening seat has seen
  abbrev pub newcomer : View B → View B
  newcomer v = record v {
    live = true;
    holds = false;
    number = v.made;
    made = 0;
    also = [];
    calls = [];
    joined = [];
  }

  -- the view of a seat that took in another: until the next step, what the shorter one had seen stands beside
  abbrev pub taken_in : View B → View B → View B
  taken_in v w = record v {
    seen = if nat_lt (length v.seen) (length w.seen) then w.seen else v.seen;
    also = if nat_lt (length v.seen) (length w.seen) then v.seen else w.seen;
    calls = v.calls ++ w.calls;
    joined = v.joined ++ w.number ∷ w.joined;
  }

  abbrev pub settled : View B → View B
  settled v = record v { also = [] }

  -- what is left of a seat that was joined away
  abbrev pub spent : View B
  spent = record {
    first = None;
    live = false;
    holds = false;
    target = 0;
    block = 0;
    number = 0;
    made = 0;
    seen = [];
    also = [];
    calls = [];
    joined = [];
  }

  -- the opening seat's view of a campaign that was just opened
  abbrev pub opening_view : B → ℕ → ℕ → View B
  opening_view book target block = record spent {
    first = Some book;
    live = true;
    target = target;
    block = block;
    made = 1;
  }

  -- the view is the opening seat's, which has made no other and took in none
  pub record IsOpening (v : View B) : Type 0 where
    pub number : v.number ≡ 0
    pub made : v.made ≡ 1
    pub joined : v.joined ≡ []
    pub holds : v.holds ≡ false
    pub calls : v.calls ≡ []

  -- a view is sound: its history is legal; the entries of its numbers in it are its own calls, each once; a
  -- range that is out among its own calls isn't deposited there; what it deposited was given to it; its
  -- numbers differ; and of the opening seat, each number below the number made, and no other, may be in the
  -- history
  pub record IsSound (v : View B) : Type 0 where
    pub target : (1 ≤ v.target) × (v.target ≤ MOST_SAMPLES)
    pub block : (1 ≤ v.block) × (v.block ≤ MOST_BLOCK)
    pub legal : IsLegal v.target v.block v.seen
    pub mine : (n : ℕ) → owns v n ≡ true → calls_of n v.seen ≡ calls_of n v.calls
    pub others : (n : ℕ) → owns v n ≡ false → calls_of n v.calls ≡ []
    pub out : (first count : ℕ) → has_range (out_of v.calls) (range first count) ≡ true
        → has_range (deposits_of v.seen) (range first count) ≡ false
    pub given : (r : SampleRange) → has_range (deposits_of v.calls) r ≡ true
        → has_range (ranges_of v.calls) r ≡ true
    pub apart : (n : ℕ) → how_often n (numbers_of v) ≤ 1
    pub below : v.number ≡ 0 → (n : ℕ) → owns v n ≡ true → n < v.made
    pub callers : v.number ≡ 0 → (n : ℕ) → v.made ≤ n → calls_of n v.seen ≡ []

  -- of a seat all stays but what it has seen and called
  pub record IsSameSeat (v w : View B) : Type 0 where
    pub number : w.number ≡ v.number
    pub made : w.made ≡ v.made
    pub joined : w.joined ≡ v.joined
    pub holds : w.holds ≡ v.holds
    pub target : w.target ≡ v.target
    pub block : w.block ≡ v.block

  -- while the book is held, the deposits that were found stay
  abbrev pub KeepsFound : View B → View B → Type 0
  KeepsFound v w = v.holds ≡ true → deposits_of w.seen ≡ deposits_of v.seen

  -- the seat saw more of the history, up to a point at which the gate was found
  pub record Sees (v : View B) (g : Gate) (w : View B) : Type 0 where
    pub between : List Entry
    pub view : w ≡ with_seen v (v.seen ++ between)
    pub gate : gate_of v.target (v.seen ++ between) ≡ g
    pub sound : IsSound w
    pub found : KeepsFound v w

  -- the seat's call stands behind what it then saw, where the gate was found
  pub record Makes (v : View B) (call : Call) (g : Gate) (w : View B) : Type 0 where
    pub between : List Entry
    pub view :
        w ≡ with_call v (v.seen ++ between)
        (entry v.number call (reply_of v.block g (deposits_of (v.seen ++ between)) call))
    pub gate : gate_of v.target (v.seen ++ between) ≡ g
    pub sound : IsSound w
    pub found : KeepsFound v w

  -- a look that decides a call makes it, and any other look sees
  abbrev pub Looks : View B → Call → Gate → View B → Type 0
  Looks v call g w = MatchBool (takes_exchange (reply_of v.block g [] call)) (Sees v g w) (Makes v call g w)

  -- a call that a look may decide; an interim report only while the book is held
  abbrev pub MayLook : View B → Call → Type 0
  MayLook v Claim = Unit {0}
  MayLook v (Extend more) = Unit {0}
  MayLook v AskProgress = Unit {0}
  MayLook v AskInterim = v.holds ≡ true
  MayLook v Seal = ⊥
  MayLook v Cancel = ⊥
  MayLook v (Deposit first count) = ⊥

  -- the seat took the book, and saw the whole history
  pub record Takes (v w : View B) : Type 0 where
    pub between : List Entry
    pub view : w ≡ with_hold true (with_seen v (v.seen ++ between))
    pub sound : IsSound w

  -- the seat's deposit stands behind what it then saw, and the book is back
  pub record Deposits (v : View B) (first count number : ℕ) (w : View B) : Type 0 where
    pub between : List Entry
    pub view :
        w ≡ with_hold false
        (with_call v (v.seen ++ between) (entry v.number (Deposit first count)
        (reply_of v.block (gate_of v.target (v.seen ++ between)) (deposits_of (v.seen ++ between))
        (Deposit first count))))
    pub found : deposits_of (v.seen ++ between) ≡ deposits_of v.seen
    pub counted : number ≡ length (deposits_of v.seen) + 1
    pub sound : IsSound w

  -- a seat took in another: it has the longer history, which both begin, both lists of calls and all numbers
  pub record TakesIn (v other w : View B) : Type 0 where
    pub seen : List Entry
    pub one : (seen ≡ v.seen) ⊎ (seen ≡ other.seen)
    pub keep_begins : IsPrefix v.seen seen
    pub other_begins : IsPrefix other.seen seen
    pub view : w ≡ settled (with_seen (taken_in v other) seen)
    pub sound : IsSound w
