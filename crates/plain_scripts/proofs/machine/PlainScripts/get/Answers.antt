use Rattle.std.proofs.Common.{◌≡◌, sym, Some, None}
use Rattle.std.specs.Option.{option_copied}
use Rattle.std.specs.Prelude.{IfSome}
use Rattle.script_rules.specs.Objects.{IsObject, get}
use Rattle.script_rules.proofs.EntryLemmas.{get_among}
use Rattle.plain_scripts.proofs.machine.PlainScripts.get.Goals as goal

pub returns-clause-is : goal.returns-clause-is
returns-clause-is c = elim c.get.result as (λ r. option_copied r ≡ get c.self.inside.objects c.args.name → IfSome r (λ o. IsObject o.now)) [
  | None ↦ λ e. tt
  | Some o ↦ λ e. get_among IsObject c.self.inside.objects c.args.name o.now c.self.invariant.each (sym e)
] c.get.ensures
