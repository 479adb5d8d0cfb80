-- The rows of a write's refusals, and how the refusals of planning become those of a write.
use Rattle.std.specs.Prelude.{[], ◌∷◌}
use Rattle.memory.specs.Row.{Row, rowed}
use Rattle.least.specs.Writes.{past_the_end, protected_at, steps_short, data_short}
use Rattle.planner.specs.declared.fault.PlanFault.{PlanFault}
use Rattle.planner.specs.declared.fault.PlanFault.TheVariants as plans
use Rattle.writing.specs.declared.fault.WriteFault.{WriteFault}
use Rattle.writing.specs.declared.fault.WriteFault.TheVariants.{Limit, Outside, StillBusy, Protected, StepsShort, DataShort, Abandoned}

abbrev pub row : WriteFault → Row
row (Limit limit) = rowed 1 9 (limit ∷ [])
row (Outside address) = past_the_end address
row (StillBusy polls) = rowed 1 3 (polls ∷ [])
row (Protected address) = protected_at address
row (StepsShort cost) = steps_short cost
row (DataShort cost) = data_short cost
row (Abandoned cycles) = rowed 1 8 (cycles ∷ [])

abbrev pub unplanned_as : PlanFault → WriteFault
unplanned_as (plans.Outside address) = Outside address
unplanned_as plans.Busy = StillBusy 0
unplanned_as (plans.Protected address) = Protected address
unplanned_as (plans.StepsShort cost) = StepsShort cost
unplanned_as (plans.DataShort cost) = DataShort cost
