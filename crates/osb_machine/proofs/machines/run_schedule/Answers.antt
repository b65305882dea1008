use Rattle.std.proofs.lemmas.Result.{IfOk-weaker}
use Rattle.osb_state.specs.Schedules.{places_of}
use Rattle.osb_machine.proofs.ScheduleLogs.{leads_to_end}
use Rattle.osb_machine.proofs.RunEnds.{true_end, kept_end, filled_end}
use Rattle.osb_machine.proofs.machines.run_schedule.Goals as goal

pub returns-clause-log : goal.returns-clause-log
returns-clause-log c =
    IfOk-weaker c.run_by.result _ _
    (λ machine by opening limit opens true_is.
    leads_to_end c.args.plan.now opening limit c.args.workers c.args.schedule.now machine.shared (places_of machine.jobs) c.requires.sound c.run_by.ensures.table opens.can_open true_is c.requires.within (by opening limit opens true_is))
    c.run_by.ensures.run

pub returns-clause-kept : goal.returns-clause-kept
returns-clause-kept c =
    IfOk-weaker c.run_by.result _ _
    (λ machine by opening limit opens true_is.
    kept_end c.args.plan.now opening limit c.args.workers machine.shared c.requires.sound c.run_by.ensures.table opens.can_open true_is
    (leads_to_end c.args.plan.now opening limit c.args.workers c.args.schedule.now machine.shared (places_of machine.jobs) c.requires.sound c.run_by.ensures.table opens.can_open true_is c.requires.within (by opening limit opens true_is)))
    c.run_by.ensures.run

pub returns-clause-meant : goal.returns-clause-meant
returns-clause-meant c =
    IfOk-weaker c.run_by.result _ _
    (λ machine by opening limit opens true_is.
    (true_end c.args.plan.now opening limit c.args.workers machine.shared c.requires.sound c.run_by.ensures.table opens.can_open true_is
    (leads_to_end c.args.plan.now opening limit c.args.workers c.args.schedule.now machine.shared (places_of machine.jobs) c.requires.sound c.run_by.ensures.table opens.can_open true_is c.requires.within (by opening limit opens true_is))).ends)
    c.run_by.ensures.run

pub returns-clause-filled : goal.returns-clause-filled
returns-clause-filled c =
    IfOk-weaker c.run_by.result _ _
    (λ machine by opening limit opens true_is.
    filled_end c.args.plan.now opening limit c.args.workers machine.shared c.requires.sound c.run_by.ensures.table opens.can_open true_is
    (leads_to_end c.args.plan.now opening limit c.args.workers c.args.schedule.now machine.shared (places_of machine.jobs) c.requires.sound c.run_by.ensures.table opens.can_open true_is c.requires.within (by opening limit opens true_is)))
    c.run_by.ensures.run
