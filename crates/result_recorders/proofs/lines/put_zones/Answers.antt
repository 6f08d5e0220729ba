use Rattle.std.proofs.Common.{◌≡◌, sym, ◌∙◌, refl, rules}
use Rattle.ra_base.specs.declared.limits.TheConstants.{MOST_ZONES}
use Rattle.decimal_text.proofs.Growing.{Joined-none, Joined-yes, Joined-no}
use Rattle.result_recorders.proofs.ZoneLemmas.{zones_joined}
use Rattle.result_recorders.proofs.lines.put_zones.Goals.{then-has_zone+in_ok-put_joined, else-has_zone}
use Rattle.result_recorders.proofs.lines.put_zones.Goals as goal

pub loop-zone-init : goal.loop-zone-init
loop-zone-init c = Joined-none _ _ _

pub loop-zone-preserved : goal.loop-zone-preserved
loop-zone-preserved c = elim c.if-has_zone.branch [
  | then-has_zone+in_ok-put_joined w ↦
      rw (w.out-is, w.first-is) (Joined-yes _ _ _ _ _ _ _ _ c.loop-zone.invariant (sym c.has_zone.ensures ∙ w.if-has_zone.true) refl w.in_ok-put_joined.ensures)
  | else-has_zone w ↦
      rw (w.out-is, w.first-is) (Joined-no _ _ _ _ _ _ c.loop-zone.invariant (sym c.has_zone.ensures ∙ w.if-has_zone.false))
]

pub returns : goal.returns
returns c =
    let end : c.loop-zone.zone ≡ MOST_ZONES = search rules in
    rw end at (zones_joined c.args.mask c.loop-zone.zone _ _ _ c.loop-zone.invariant)
