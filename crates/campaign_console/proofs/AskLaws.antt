-- What a request is answered by a pass, by what its call came to.
use Rattle.std.proofs.Common.{◌≡◌, ℕ, List, [], map, refl, ◌∙◌}
use Rattle.campaign_core.specs.declared.gate.Gate.{Gate}
use Rattle.campaign_core.specs.declared.run.Run.{Run}
use Rattle.campaign_core.specs.declared.call.Call.{Call}
use Rattle.campaign_core.specs.declared.call.Call.TheVariants as call
use Rattle.campaign_core.specs.declared.call.Reply.{Reply}
use Rattle.campaign_core.specs.declared.call.Reply.TheVariants as reply
use Rattle.campaign_core.specs.Ranges.{samples_of}
use Rattle.turn_book.specs.declared.view.View.{View}
use Rattle.campaign.specs.Passes.{Says}
use Rattle.sample_totals.specs.Totals.{Sheet}
use Rattle.sample_run.specs.SampleWorks.{WorkTerms, StandsFor}
use Rattle.campaign_console.specs.declared.requests.Request.{Request}
use Rattle.campaign_console.specs.declared.requests.Request.TheVariants as request
use Rattle.campaign_console.specs.declared.answers.Answer.{Answer}
use Rattle.campaign_console.specs.declared.answers.Answer.TheVariants as answer
use Rattle.campaign_console.specs.LineTexts.{made, IsReplied}
use Rattle.campaign_console.specs.Asks.{Adds, Replied}
use Rattle.campaign_console.proofs.AddLaws.{adds_none, adds_says, adds_then}

module _ {B : Type 0} (work : WorkTerms) where
  -- a call of the opening pass, behind what it saw meanwhile
  replied_call : (asked : Request) (given : Answer) (v u w : View B) (c : Call) (r : Reply) → v.number ≡ 0 → Adds [] v u → Says u c r w → IsReplied work asked given (made c r)
      → Replied work asked given v w
  replied_call asked given v u w c r opening nothing says replied = record {
    entries = made c r;
    replied = replied;
    adds = adds_then v u w [] (made c r) nothing (adds_says u c r w (nothing.same.number ∙ opening) says);
  }

  pub replied_progress : (v : View B) (gate : Gate) (w : View B) → v.number ≡ 0 → Says v call.Progress (reply.Progress gate) w → Replied work request.Progress (answer.Progress gate) v w
  replied_progress v gate w opening says = replied_call request.Progress (answer.Progress gate) v v w call.Progress (reply.Progress gate) opening (adds_none v) says refl

  pub replied_report : (v : View B) (gate : Gate) (runs : List Run) (totals : Sheet) (w : View B) → v.number ≡ 0 → Says v call.Interim (reply.Interim gate runs) w
      → StandsFor work.system work.seed totals (map samples_of runs) → Replied work request.Report (answer.Report gate runs totals) v w
  replied_report v gate runs totals w opening says stands =
      replied_call request.Report (answer.Report gate runs totals) v v w call.Interim (reply.Interim gate runs) opening (adds_none v) says (refl, stands)

  pub replied_seal : (v w : View B) → v.number ≡ 0 → Says v call.Seal reply.Marked w → Replied work request.Seal answer.Sealed v w
  replied_seal v w opening says = replied_call request.Seal answer.Sealed v v w call.Seal reply.Marked opening (adds_none v) says refl

  pub replied_cancel : (v w : View B) → v.number ≡ 0 → Says v call.Cancel reply.Marked w → Replied work request.Cancel answer.Cancelled v w
  replied_cancel v w opening says = replied_call request.Cancel answer.Cancelled v v w call.Cancel reply.Marked opening (adds_none v) says refl

  pub replied_long : (v : View B) → Replied work request.Long answer.Long v v
  replied_long v = record { entries = []; replied = refl; adds = adds_none v }

  pub replied_unknown : (v : View B) → Replied work request.Unknown answer.Unknown v v
  replied_unknown v = record { entries = []; replied = refl; adds = adds_none v }

  -- an extension, behind what was seen while others came between
  pub extended_now : (v u w : View B) (more target : ℕ) → v.number ≡ 0 → Adds [] v u → Says u (call.Extend more) (reply.Now target) w → Replied work (request.Extend more) (answer.Target target) v w
  extended_now v u w more target opening nothing says =
      replied_call (request.Extend more) (answer.Target target) v u w (call.Extend more) (reply.Now target) opening nothing says refl

  pub extended_cancelled : (v u w : View B) (more : ℕ) → v.number ≡ 0 → Adds [] v u → Says u (call.Extend more) reply.Cancelled w → Replied work (request.Extend more) answer.RefusedCancelled v w
  extended_cancelled v u w more opening nothing says =
      replied_call (request.Extend more) answer.RefusedCancelled v u w (call.Extend more) reply.Cancelled opening nothing says refl

  pub extended_sealed : (v u w : View B) (more : ℕ) → v.number ≡ 0 → Adds [] v u → Says u (call.Extend more) reply.Sealed w → Replied work (request.Extend more) answer.RefusedSealed v w
  extended_sealed v u w more opening nothing says =
      replied_call (request.Extend more) answer.RefusedSealed v u w (call.Extend more) reply.Sealed opening nothing says refl

  pub extended_too_many : (v u w : View B) (more target : ℕ) → v.number ≡ 0 → Adds [] v u → Says u (call.Extend more) (reply.TooMany target) w
      → Replied work (request.Extend more) (answer.RefusedTooMany target) v w
  extended_too_many v u w more target opening nothing says =
      replied_call (request.Extend more) (answer.RefusedTooMany target) v u w (call.Extend more) (reply.TooMany target) opening nothing says refl
