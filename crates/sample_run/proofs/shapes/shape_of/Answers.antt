use Rattle.std.proofs.Common.{◌≡◌, ℕ, List, sym, ◌∙◌, subst}
use Rattle.zone_network.specs.declared.links.Link.{Link}
use Rattle.zone_network.specs.Network.{ShapeParts, IsShape}
use Rattle.sample_run.proofs.HoursLemmas.{shape-valid}
use Rattle.sample_run.proofs.shapes.shape_of.Goals as goal

-- a shape from its parts
shape : ℕ → List Link → List ℕ → ShapeParts
shape zones ends devices = record { zones = zones; ends = ends; device_zones = devices }

same : (zones zones' : ℕ) (ends ends' : List Link) (devices devices' : List ℕ) → zones' ≡ zones → ends' ≡ ends → devices' ≡ devices → IsShape (shape zones ends devices) → IsShape (shape zones' ends' devices')
same zones zones' ends ends' devices devices' z e d is =
    subst (λ (x : ℕ). IsShape (shape x ends' devices')) (sym z)
    (subst (λ (x : List Link). IsShape (shape zones x devices')) (sym e) (subst (λ (x : List ℕ). IsShape (shape zones ends x)) (sym d) is))

pub new-requires : goal.new-requires
unfolding shape
new-requires c =
    record {
      shape =
          same _ _ _ _ _ _ c.zones.ensures.count (c.deref.ensures.value ∙ c.in_ok-links.ensures) (c.deref-2.ensures.value ∙ c.in_ok-devices.ensures)
          (shape-valid c.args.system.now c.zones.ensures.valid);
    }
