-- Calls that a pass has behind its own: how they are put together.
use Rattle.std.proofs.Common.{◌≡◌, List, [], ◌∷◌, ◌++◌, refl, ap, sym, ◌∙◌, subst, append_assoc}
use Rattle.std.proofs.lemmas.List.{append-nil}
use mathlib.Core.List.{IsPrefix}
use Rattle.campaign_core.specs.declared.gate.Gate.{Gate}
use Rattle.campaign_core.specs.declared.call.Call.{Call}
use Rattle.campaign_core.specs.declared.call.Reply.{Reply}
use Rattle.campaign_core.specs.declared.call.Entry.{Entry}
use Rattle.campaign_core.specs.History.{entry}
use Rattle.campaign_core.proofs.HistoryLaws.{prefix_self, prefix_trans, prefix_append}
use Rattle.turn_book.specs.declared.view.View.{View}
use Rattle.campaign.specs.Passes.{Saw, Says, Moves}
use Rattle.campaign_workers.proofs.WorkLaws.{same_then, same_saw, same_says, seen_says, moved_saw}
use Rattle.campaign_console.specs.LineTexts.{made}
use Rattle.campaign_console.specs.Asks.{Adds}

module _ {B : Type 0} where
  pub adds_none : (v : View B) → Adds [] v v
  adds_none v = record {
    calls = sym (append-nil v.calls);
    seen = prefix_self v.seen;
    same = record { number = refl; made = refl; joined = refl; holds = refl; target = refl; block = refl };
  }

  pub adds_saw : (v w : View B) → Saw v w → Adds [] v w
  adds_saw v w saw = record {
    calls = ap (λ (x : View B). x.calls) saw.view ∙ sym (append-nil v.calls);
    seen = subst (λ (x : View B). IsPrefix v.seen x.seen) (sym saw.view) (prefix_append v.seen saw.between);
    same = same_saw v w saw;
  }

  pub adds_moved : (v : View B) (before after : Gate) (w : View B) → Moves v before after w → Adds [] v w
  adds_moved v before after w moves = adds_saw v w (moved_saw v before after w moves)

  -- a call of the opening pass
  pub adds_says : (v : View B) (call : Call) (reply : Reply) (w : View B) → v.number ≡ 0 → Says v call reply w → Adds (made call reply) v w
  adds_says v call reply w opening says = record {
    calls = ap (λ (x : View B). x.calls) says.view ∙ ap (λ n. v.calls ++ entry n call reply ∷ []) opening;
    seen = seen_says v call reply w says;
    same = same_says v call reply w says;
  }

  pub adds_then : (v u w : View B) (es fs : List Entry) → Adds es v u → Adds fs u w → Adds (es ++ fs) v w
  adds_then v u w es fs one two = record {
    calls = two.calls ∙ (ap (λ l. l ++ fs) one.calls ∙ append_assoc v.calls es fs);
    seen = prefix_trans v.seen u.seen w.seen one.seen two.seen;
    same = same_then v u w one.same two.same;
  }
