use Rattle.std.proofs.Common.{subst, sym}
use Rattle.script_rules.specs.declared.commands.Ended.TheVariants.{OutOfMemory}
use Rattle.arena_script.specs.Running.{IsRun}
use Rattle.arena_script.proofs.EndingLemmas.{came, run_unbegun}
use Rattle.arena_script.proofs.run.run_script.Goals as goal

pub returns-in_default : goal.returns-in_default
returns-in_default g c =
    subst (λ replies. IsRun c.args.script.now c.args.a.now c.args.a.now (came replies OutOfMemory c.used_bytes.result)) (sym c.new.ensures)
    (run_unbegun c.args.script.now c.args.a.now
    (record { valid = c.known.ensures.valid; unused = c.requires; min_align = c.known.ensures.state }) c.used_bytes.result c.used_bytes.ensures)

pub returns : goal.returns
returns g c =
    let old = c.args.a.now in
    let new = c.serve_all-ended.new.a in
    let ended = c.serve_all-ended.result in
    let bytes = c.used_bytes-2.result in
    subst (λ script. IsRun script old new (came c.from_vec.result ended bytes)) c.as_slice-commands.ensures
    (subst (λ replies. IsRun c.as_slice-commands.result.now old new (came replies ended bytes)) (sym c.from_vec.ensures)
    (c.serve_all-ended.ensures bytes c.used_bytes-2.ensures))
