use Rattle.std.proofs.Common.{◌≡◌, ap, sym, ◌∙◌, rules}
use Rattle.system_model.specs.System.{zone_count}
use Rattle.report_text.specs.TotalsText.{name_text}
use Rattle.decimal_text.proofs.Growing.{Joined-none, Joined-yes, Joined-no}
use Rattle.report_text.proofs.ZoneNames.{zones_joined}
use Rattle.report_text.proofs.names.put_zone_set.Goals.{then-has_zone+in_ok-put_joined, else-has_zone}
use Rattle.report_text.proofs.names.put_zone_set.Goals as goal

pub loop-zone-init : goal.loop-zone-init
loop-zone-init c = Joined-none _ _ _

pub loop-zone-preserved : goal.loop-zone-preserved
loop-zone-preserved c = elim c.if-has_zone.branch [
  | then-has_zone+in_ok-put_joined w ↦
      rw (w.out-is, w.first-is) (Joined-yes _ _ _ _ _ _ _ _ c.loop-zone.invariant (sym c.has_zone.ensures ∙ w.if-has_zone.true) (ap name_text w.zone_name.ensures.value) w.in_ok-put_joined.ensures)
  | else-has_zone w ↦
      rw (w.out-is, w.first-is) (Joined-no _ _ _ _ _ _ c.loop-zone.invariant (sym c.has_zone.ensures ∙ w.if-has_zone.false))
]

pub returns : goal.returns
returns c =
    let end : c.loop-zone.zone ≡ zone_count c.args.system.now = search rules in
    rw end at (zones_joined _ c.args.mask c.loop-zone.zone _ _ _ c.loop-zone.invariant)
