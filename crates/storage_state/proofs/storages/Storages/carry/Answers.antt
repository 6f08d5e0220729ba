use Rattle.std.proofs.Common.{◌≡◌, ℕ, List, get_or, ap, ◌∙◌, arith}
use Rattle.std.proofs.lemmas.List.FromFn.{fill_by_all}
use Rattle.system_model.specs.System.{SystemParts, storage_count, storage_at}
use Rattle.storage_state.specs.Energy.{carried}
use Rattle.storage_state.specs.Holdings.{Holdings, carried_energies}
use Rattle.storage_state.proofs.storages.Storages.carry.Goals as goal

-- what is held, from its parts
held : SystemParts → List ℕ → Holdings
held system energies = record { system = system; energies = energies }

pub returns : goal.returns
unfolding held
returns c =
    let s = c.self.inside.system.now in
    let e = c.self.inside.energies.items in
    let now = c.loop-device.self-inside in
    let is = c.loop-device.invariant in
    let all : now.energies.items ≡ carried_energies s e =
    fill_by_all (λ k. carried (storage_at s k) (get_or e k 0)) now.energies.items (storage_count s) 0 is.len (λ k l. is.done k (omega (arith, c.storages-device-end.ensures.count))) in
    ap (λ (x : SystemParts). held x now.energies.items) is.system
    ∙ ap (held s) all
    ∙ ap (λ (h : Holdings). held h.system (carried_energies h.system h.energies)) c.self.view_is
