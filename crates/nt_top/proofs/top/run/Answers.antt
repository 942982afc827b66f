use Rattle.std.proofs.Common.{map, rules}
use Rattle.std.specs.String.{string_bytes}
use Rattle.nt_top.proofs.RunLaws.{command_acts, command_proved, runs, service_acts, service_proved}
use Rattle.nt_top.proofs.top.run.Goals as goal

pub returns-in-Ok-Service : goal.returns-in-Ok-Service
returns-in-Ok-Service g c =
    let did = c.read_and_serve.ensures in
    runs _ _ _ _ _ _ (service_acts _ c.args.role (map string_bytes c.args.words.now) c.job_of.result c.in-Ok-Service.service _ _ _ (search rules) c.job_of.ensures.job c.job_of.ensures.at_once
    did.reads did.file_cause did.port_cause did.sink_cause did.writes did.sink did.files did.port did.links)
    (service_proved c.args.role (map string_bytes c.args.words.now) c.job_of.result c.in-Ok-Service.service _ (search rules) c.job_of.ensures.job)

pub returns-in-Ok-Command : goal.returns-in-Ok-Command
returns-in-Ok-Command g c =
    let did = c.perform.ensures in
    runs _ _ _ _ _ _ (command_acts _ c.args.role (map string_bytes c.args.words.now) c.job_of.result c.in-Ok-Command.command c.args.port.now c.args.files.now c.args.out.now c.perform.new.out
    c.args.clock.now c.args.chances.now _ (search rules) c.job_of.ensures.job c.job_of.ensures.at_once did.ends did.at_once did.untouched did.memory did.faults)
    (command_proved c.args.role (map string_bytes c.args.words.now) c.job_of.result c.in-Ok-Command.command _ (search rules) c.job_of.ensures.job did.proved)
