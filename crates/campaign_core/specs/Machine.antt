-- The machine of a campaign: for which histories it stands, and what it is after a call.
use Rattle.std.specs.Prelude.{◌≡◌, ℕ, ◌+◌, ◌≤◌, ◌||◌, IsTrue, List, [], ◌∷◌, ◌++◌, map}
use Rattle.ra_base.specs.declared.limits.TheConstants.{MOST_SAMPLES, MOST_BLOCK}
use Rattle.campaign_core.specs.declared.gate.Gate.{Gate}
use Rattle.campaign_core.specs.declared.run.SampleRange.{SampleRange}
use Rattle.campaign_core.specs.declared.call.Call.{Call}
use Rattle.campaign_core.specs.declared.call.Call.TheVariants.{Extend, Deposit}
use Rattle.campaign_core.specs.declared.call.Reply.{Reply}
use Rattle.campaign_core.specs.declared.call.Entry.{Entry}
use Rattle.campaign_core.specs.Ranges.{range, has_range, without, AreSame, AreFilled}
use Rattle.campaign_core.specs.History.{range_in, claimed_in, raised_in, deposit_in, is_seal, is_cancel, gate_of, deposits_of, out_of, IsLegal}

-- the opening target, the block, the gate, the deposited ranges in order, and the ranges that are out,
-- ascending
pub record Machine : Type 0 where
  pub opening : ℕ
  pub block : ℕ
  pub gate : Gate
  pub deposited : List SampleRange
  pub out : List SampleRange

-- a machine stands for a legal history, of which it keeps what the next reply needs
pub record StandsFor (m : Machine) (h : List Entry) : Type 0 where
  pub legal : IsLegal m.opening m.block h
  pub gate : m.gate ≡ gate_of m.opening h
  pub deposited : m.deposited ≡ deposits_of h
  pub out : m.out ≡ out_of h

-- a call may be made: a deposit's range is out, and an extension is by a number of samples that a study
-- may have
abbrev pub IsAllowed : List SampleRange → Call → Type 0
IsAllowed out (Deposit first count) = IsTrue (has_range out (range first count))
IsAllowed out (Extend more) = (1 ≤ more) × (more ≤ MOST_SAMPLES)
IsAllowed out other = Unit {0}

-- the gate after a call with its reply
abbrev pub gate_after : Gate → Call → Reply → Gate
gate_after g call reply = record {
  next = g.next + claimed_in reply;
  target = g.target + raised_in call reply;
  sealed = g.sealed || is_seal call;
  cancelled = g.cancelled || is_cancel call;
}

-- the machine after a call with its reply
abbrev pub after : Machine → Call → Reply → Machine
after m call reply = record {
  opening = m.opening;
  block = m.block;
  gate = gate_after m.gate call reply;
  deposited = m.deposited ++ deposit_in call;
  out = without (deposit_in call) (m.out ++ range_in reply);
}

-- a machine is within the limits, and what was deposited and what is out are just the samples that were
-- given out
pub record IsSound (m : Machine) : Type 0 where
  pub opening : (1 ≤ m.opening) × (m.opening ≤ MOST_SAMPLES)
  pub block : (1 ≤ m.block) × (m.block ≤ MOST_BLOCK)
  pub next : m.gate.next ≤ m.gate.target
  pub target : m.gate.target ≤ MOST_SAMPLES
  pub filled : AreFilled (m.deposited ++ m.out)
  pub same : AreSame (m.deposited ++ m.out) (range 0 m.gate.next ∷ [])

-- the calls of a history, and its replies
abbrev pub calls_in : List Entry → List Call
calls_in h = map (λ (e : Entry). e.call) h

abbrev pub replies_in : List Entry → List Reply
replies_in h = map (λ (e : Entry). e.reply) h

-- each call of a list may be made where the calls before it made a legal history
abbrev pub MayBeCalled : ℕ → ℕ → List Call → Type 0
MayBeCalled opening block calls =
    (before : List Entry) (call : Call) (after : List Call)
    → calls ≡ calls_in before ++ call ∷ after
    → IsLegal opening block before
    → IsAllowed (out_of before) call
