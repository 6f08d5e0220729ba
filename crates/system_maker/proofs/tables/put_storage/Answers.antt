use Rattle.system_maker.proofs.RowLaws.{on_ok, storage_written}
use Rattle.system_maker.proofs.tables.put_storage.Goals as goal

pub returns : goal.returns
returns c =
    on_ok c.put_rates.result _ _ c.put_rates.ensures (λ last.
    storage_written c.args.system.now c.args.at c.storage-storage.result _ _ _ _ _ _ _ _ c.storage-storage.ensures.value c.storage_name.ensures.value c.zone_name.ensures.value
    c.in_ok-push.ensures.ok c.in_ok-put_name.ensures c.in_ok-put_sizes.ensures c.in_ok-put_shares.ensures last)
