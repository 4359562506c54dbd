-- A plan's fields as plain data.
use Rattle.cs_safety.specs.declared.plans.Plan.TheInside.{Inside}
use Rattle.cs_safety.specs.PlanData.{PlanData}

abbrev pub plan_data : Inside → PlanData
plan_data p = record { anchor = p.anchor; prev = p.prev.items; source = p.source.items }
