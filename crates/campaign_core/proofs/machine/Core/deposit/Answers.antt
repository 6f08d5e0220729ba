use Rattle.std.proofs.Common.{true, ◌≡◌, ◌∷◌, ◌++◌, [], length, slice_get, Some, sym, ap, ◌∙◌, subst, arith}
use Rattle.campaign_core.specs.Cores.{machine_of}
use Rattle.campaign_core.specs.Ranges.{range, has_range, without}
use Rattle.campaign_core.specs.Machine.{Machine, IsSound}
use Rattle.campaign_core.proofs.MachineLaws.{after_deposited, sound_deposited, sound_few, sound_place, below_from_get}
use Rattle.campaign_core.proofs.machine.Core.deposit.Goals as goal

pub place_of-place-requires : goal.place_of-place-requires
place_of-place-requires c =
    let r = range c.args.first c.args.count in
    subst (λ l. has_range l r ≡ true) (sym c.as_slice.ensures.value) (subst (λ (m : Machine). has_range m.out r ≡ true) (sym c.self.view_is) c.requires)

pub remove-requires : goal.remove-requires
remove-requires c =
    omega (arith, below_from_get c.as_slice.result.now c.place_of-place.result (range c.args.first c.args.count) c.place_of-place.ensures, c.as_slice.ensures.len)

kept : (c : goal.After-len) → c.remove.new.self.items ≡ without (range c.args.first c.args.count ∷ []) c.self.inside.out.items
kept c =
    let r = range c.args.first c.args.count in
    let there = subst (λ l. slice_get l c.place_of-place.result ≡ Some r) c.as_slice.ensures.value c.place_of-place.ensures in
    c.remove.ensures.items ∙ sound_place (machine_of c.self.inside) c.place_of-place.result r c.self.invariant there

sound_now : (c : goal.After-len) → IsSound (record {
  opening = c.self.inside.opening;
  block = c.self.inside.block;
  gate = c.self.inside.gate;
  deposited = c.self.inside.deposited.items ++ range c.args.first c.args.count ∷ [];
  out = without (range c.args.first c.args.count ∷ []) c.self.inside.out.items;
})
sound_now c = sound_deposited (machine_of c.self.inside) (range c.args.first c.args.count) c.self.invariant (subst (λ (m : Machine). has_range m.out (range c.args.first c.args.count) ≡ true) (sym c.self.view_is) c.requires)

pub overflow_cast-result : goal.overflow_cast-result
overflow_cast-result c =
    let few = sound_few _ (sound_now c) in
    let sound = sound_now c in
    omega (arith, few, sound.next, sound.target, c.len.ensures, c.push.new.self.ok.0, ap length c.in_ok-push.ensures.items)

pub invariant_of-self-2 : goal.invariant_of-self-2
invariant_of-self-2 c = rw (c.in_ok-push.ensures.items, kept c) (sound_now c)

pub returns-clause-after : goal.returns-clause-after
returns-clause-after c = rw (c.in_ok-push.ensures.items, kept c, ← c.self.view_is) (sym (after_deposited (machine_of c.self.inside) (range c.args.first c.args.count)))
