use Rattle.std.proofs.Common.{refl, ap, sym, arith}
use Rattle.std.proofs.lemmas.Option.{slice_get_past}
use Rattle.arena_items.proofs.Layers.{still}
use Rattle.arena_symbols.specs.Names.{names_in}
use Rattle.arena_symbols.specs.declared.calls.Reply.TheVariants.{Name}
use Rattle.arena_symbols.proofs.CallLemmas.{serves_read}
use Rattle.arena_symbols.proofs.names.Names.name.Goals as goal

pub returns-then-id-len : goal.returns-then-id-len
returns-then-id-len g c =
    serves_read _ _ _ _ c.requires (ap (λ o. Name o) (sym (slice_get_past (names_in c.args.a.now.memory c.args.self.now.symbols) c.args.id
    (omega (arith, c.len.ensures c.args.a.now.memory))))) refl (λ no. no) tt (still c.args.a.now) refl
