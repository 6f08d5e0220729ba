use Rattle.std.proofs.Common.{◌≡◌, Ok, ap, replicate}
use Rattle.outage_chronology.specs.Standing.{Standing, is_up_at}
use Rattle.storage_state.specs.Holdings.{Holdings, start_energies}
use Rattle.zone_network.specs.Network.{ShapeParts, NetworkParts, empty_network}
use Rattle.sample_totals.specs.declared.outcomes.HourOutcome.{HourOutcome}
use Rattle.cut_certificate.specs.declared.chains.Chain.{Chain}
use Rattle.cut_certificate.specs.Chain.{empty_chain}
use Rattle.sample_run.specs.UpSums.{AreSums}
use Rattle.sample_run.proofs.HoursLemmas.{answered, kept-first}
use Rattle.sample_run.proofs.hours.Hours.new.Goals as goal

pub invariant_of-result : goal.invariant_of-result
invariant_of-result c =
    let system = c.args.system.now in
    let shape = c.in_ok-shape.shape in
    let zones = c.zones.result in
    let devices = c.devices.result in
    let made = c.in_ok-held in
    let up : c.up_at_first.result ≡ Ok made.held.0 =
    answered c.both-held.result made.held (λ p. c.up_at_first.result ≡ Ok p.0) made.ensures.first c.both-held.ensures.first in
    let storages : c.new.result ≡ Ok made.held.1 =
    answered c.both-held.result made.held (λ p. c.new.result ≡ Ok p.1) made.ensures.first c.both-held.ensures.second in
    let means : c.both-means.result ≡ Ok made.means =
    answered c.both.result (made.means, made.results) (λ p. c.both-means.result ≡ Ok p.0) made.ensures.second c.both.ensures.first in
    let results : c.both-results.result ≡ Ok made.results =
    answered c.both.result (made.means, made.results) (λ p. c.both-results.result ≡ Ok p.1) made.ensures.second c.both.ensures.second in
    let network : c.new-2.result ≡ Ok made.means.0 =
    answered c.both-means.result made.means (λ p. c.new-2.result ≡ Ok p.0) means c.both-means.ensures.first in
    let dispatcher : c.new-3.result ≡ Ok made.means.1 =
    answered c.both-means.result made.means (λ p. c.new-3.result ≡ Ok p.1) means c.both-means.ensures.second in
    let chain : c.new-4.result ≡ Ok made.results.0 =
    answered c.both-results.result made.results (λ p. c.new-4.result ≡ Ok p.0) results c.both-results.ensures.first in
    let outcome : c.new-5.result ≡ Ok made.results.1 =
    answered c.both-results.result made.results (λ p. c.new-5.result ≡ Ok p.1) results c.both-results.ensures.second in
    let stands = answered c.up_at_first.result made.held.0 (λ u. u.0 ≡ record { system = system; seed = c.args.seed; sample = 0; hour = 0 }) up c.up_at_first.ensures.chronology in
    kept-first system shape made.held.0.0 made.held.0.1 made.held.1 made.means.0 c.set_links.new.net made.means.1 made.results.1 made.results.0 zones devices c.in_ok-shape.ensures
    (ap (λ (s : Standing). s.system) stands)
    (answered c.up_at_first.result made.held.0 (λ u. AreSums system (is_up_at u.0) u.1) up c.up_at_first.ensures.sums)
    (answered c.new.result made.held.1 (λ (h : Holdings). h ≡ record { system = system; energies = start_energies system }) storages c.new.ensures)
    (answered c.new-2.result made.means.0 (λ (n : NetworkParts). n ≡ empty_network shape) network c.new-2.ensures)
    c.set_links.ensures.rest c.set_links.ensures.links
    (answered c.new-3.result made.means.1 (λ (s : ShapeParts). s ≡ shape) dispatcher c.new-3.ensures)
    (answered c.new-4.result made.results.0 (λ (it : Chain). it ≡ empty_chain shape) chain c.new-4.ensures)
    c.zones.ensures.count c.devices.ensures.count
    (
    answered c.new-5.result made.results.1
    (λ (o : HourOutcome). o ≡ record { hour = 0; unserved = replicate zones 0; discharge = replicate devices 0; charge = replicate devices 0; energy = replicate devices 0; cut = 0 })
    outcome c.new-5.ensures
    )
