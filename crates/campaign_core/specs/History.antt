-- What a history of calls on a campaign comes to, and which histories are legal.
use Rattle.std.specs.Prelude.{◌≡◌, ℕ, ◌+◌, ◌-◌, Bool, true, false, ◌&&◌, not, ◌==◌, nat_lt, List, [], ◌∷◌, ◌++◌, length, sum_by, min, if◌then◌else◌}
use Rattle.std.specs.List.{filter, flat_map, list_any}
use Rattle.ra_base.specs.declared.limits.TheConstants.{MOST_SAMPLES}
use Rattle.campaign_core.specs.declared.gate.Gate.{Gate}
use Rattle.campaign_core.specs.declared.run.SampleRange.{SampleRange}
use Rattle.campaign_core.specs.declared.call.Call.{Call}
use Rattle.campaign_core.specs.declared.call.Call.TheVariants.{Claim, Extend, Seal, Cancel, Deposit}
use Rattle.campaign_core.specs.declared.call.Call.TheVariants.{Progress as AskProgress, Interim as AskInterim}
use Rattle.campaign_core.specs.declared.call.Reply.{Reply}
use Rattle.campaign_core.specs.declared.call.Reply.TheVariants.{Range, Idle, Drained, Cancelled, Now, Sealed, TooMany, Marked, Progress, Deposited, Interim}
use Rattle.campaign_core.specs.declared.call.Entry.{Entry}
use Rattle.campaign_core.specs.Ranges.{range, has_range, without, runs_of}

abbrev pub entry : ℕ → Call → Reply → Entry
entry caller call reply = record { caller = caller; call = call; reply = reply }

-- the range that a reply gives out, if it gives one
abbrev pub range_in : Reply → List SampleRange
range_in (Range first count) = range first count ∷ []
range_in other = []

-- how many samples a reply gives out
abbrev pub claimed_in : Reply → ℕ
claimed_in (Range first count) = count
claimed_in other = 0

-- by how much a call raised the target: an extension's `more` where the reply is `Now`
abbrev pub raised_in : Call → Reply → ℕ
raised_in (Extend more) (Now target) = more
raised_in call reply = 0

-- the range that a call deposits, if it deposits one
abbrev pub deposit_in : Call → List SampleRange
deposit_in (Deposit first count) = range first count ∷ []
deposit_in other = []

abbrev pub is_seal : Call → Bool
is_seal Seal = true
is_seal other = false

abbrev pub is_cancel : Call → Bool
is_cancel Cancel = true
is_cancel other = false

-- the gate of a history: what its replies gave out, the opening target and what was added to it, and whether
-- it has a seal and a cancel
unfoldable pub gate_of : ℕ → List Entry → Gate
gate_of opening h = record {
  next = sum_by (λ (e : Entry). claimed_in e.reply) h;
  target = opening + sum_by (λ (e : Entry). raised_in e.call e.reply) h;
  sealed = list_any (λ (e : Entry). is_seal e.call) h;
  cancelled = list_any (λ (e : Entry). is_cancel e.call) h;
}

-- the ranges that were given out, in order
unfoldable pub ranges_of : List Entry → List SampleRange
ranges_of h = flat_map (λ (e : Entry). range_in e.reply) h

-- the ranges that were deposited, in order
unfoldable pub deposits_of : List Entry → List SampleRange
deposits_of h = flat_map (λ (e : Entry). deposit_in e.call) h

-- the ranges that were given out and not deposited, in order
abbrev pub out_of : List Entry → List SampleRange
out_of h = without (deposits_of h) (ranges_of h)

-- the calls of one caller, in order
unfoldable pub calls_of : ℕ → List Entry → List Entry
calls_of caller h = filter (λ (e : Entry). e.caller == caller) h

-- the reply to a claim
abbrev pub claim_reply : ℕ → Gate → Reply
claim_reply block g =
    if g.cancelled then Cancelled
    else (if (g.next == g.target) && g.sealed then Drained
    else (if g.next == g.target then Idle
    else Range g.next (min block (g.target - g.next))))

-- the reply to an extension
abbrev pub extend_reply : Gate → ℕ → Reply
extend_reply g more =
    if g.cancelled then Cancelled
    else (if g.sealed then Sealed
    else (if nat_lt MOST_SAMPLES (g.target + more) then TooMany g.target
    else Now (g.target + more)))

-- the reply to a call, by the block, the gate and the deposits before it
abbrev pub reply_of : ℕ → Gate → List SampleRange → Call → Reply
reply_of block g deposits Claim = claim_reply block g
reply_of block g deposits (Extend more) = extend_reply g more
reply_of block g deposits Seal = Marked
reply_of block g deposits Cancel = Marked
reply_of block g deposits AskProgress = Progress g
reply_of block g deposits (Deposit first count) = Deposited (length deposits + 1)
reply_of block g deposits AskInterim = Interim g (runs_of deposits)

-- whether a call may come behind these entries: a deposit's range was given out and wasn't deposited
abbrev pub may_come : List Entry → Call → Bool
may_come before (Deposit first count) =
    has_range (ranges_of before) (range first count)
    && not (has_range (deposits_of before) (range first count))
may_come before other = true

-- an entry may follow the entries before it
abbrev pub Follows : ℕ → ℕ → List Entry → Entry → Type 0
Follows opening block before e =
    (e.reply ≡ reply_of block (gate_of opening before) (deposits_of before) e.call)
    × (may_come before e.call ≡ true)

-- each entry follows those before it
abbrev pub IsLegal : ℕ → ℕ → List Entry → Type 0
IsLegal opening block h =
    (before : List Entry) (e : Entry) (after : List Entry)
    → h ≡ before ++ e ∷ after
    → Follows opening block before e
