-- The fields of a machine as the machine that contracts see.
use Rattle.campaign_core.specs.Machine.{Machine, IsSound}
use Rattle.campaign_core.specs.declared.machine.Core.TheInside.{Inside}

abbrev pub machine_of : Inside → Machine
machine_of core = record {
  opening = core.opening;
  block = core.block;
  gate = core.gate;
  deposited = core.deposited.items;
  out = core.out.items;
}

abbrev pub IsWhole : Inside → Type 0
IsWhole core = IsSound (machine_of core)
