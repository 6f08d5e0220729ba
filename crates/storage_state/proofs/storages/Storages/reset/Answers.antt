use Rattle.std.proofs.Common.{◌≡◌, ℕ, ◌<◌, List, length, sym, ap, ◌∙◌, arith}
use Rattle.std.proofs.lemmas.List.{ext_get_or, get_or-map, length-map}
use Rattle.system_model.specs.declared.components.Storage.{Storage}
use Rattle.system_model.specs.System.{SystemParts, storage_count, no_storage}
use Rattle.storage_state.specs.Holdings.{Holdings, start_energies}
use Rattle.storage_state.proofs.storages.Storages.reset.Goals as goal

-- what is held, from its parts
held : SystemParts → List ℕ → Holdings
held system energies = record { system = system; energies = energies }

pub returns : goal.returns
unfolding held
returns c =
    let s = c.self.inside.system.now in
    let start = λ (storage : Storage). storage.start in
    let now = c.loop-device.self-inside in
    let is = c.loop-device.invariant in
    let count : length (start_energies s) ≡ storage_count s = length-map s.storages start in
    let all : now.energies.items ≡ start_energies s =
    ext_get_or 0 now.energies.items (start_energies s) (is.len ∙ sym count)
    (λ k l.
    let among : k < storage_count s = omega (arith, is.len) in
    is.done k (omega (arith, c.storages-device-end.ensures.count)) ∙ sym (get_or-map start s.storages k no_storage 0 among)) in
    ap (λ (x : SystemParts). held x now.energies.items) is.system
    ∙ ap (held s) all
    ∙ ap (λ (h : Holdings). held h.system (start_energies h.system)) c.self.view_is
