use Rattle.std.proofs.Common.{sym, ◌∙◌, arith}
use Rattle.std.proofs.lemmas.Result.{err_from_is_err_and}
use Rattle.arena_symbols.proofs.InternCalls.{interns_unplaced, interns_placed, can_list}
use Rattle.arena_chunks.proofs.Layers.{all_from_none}
use Rattle.arena_hash.specs.Maps.{footprint as map_footprint}
use Rattle.arena_hash.proofs.Layers.{map_stays}
use Rattle.arena_symbols.specs.Names.{name_kind}
use Rattle.arena_symbols.proofs.symbols.Symbols.intern.Goals as goal

pub returns-in_err-placed : goal.returns-in_err-placed
returns-in_err-placed g c =
    let p = err_from_is_err_and c.from_residual.result c.from_residual.ensures.1 in
    rw (p.1, p.2) (interns_unplaced _ _ _ c.requires.held (sym c.search-known.ensures.number ∙ c.in_default.is)
    (omega (arith, c.len.ensures, c.if-len-ge-MOST_TEXTS.false)) c.known.ensures.state c.requires.length _ _
    c.in_err-placed.ensures.placed)

pub put_listed-requires-clause-can : goal.put_listed-requires-clause-can
put_listed-requires-clause-can g c =
    can_list _ _ _ c.requires.held (sym c.search-known.ensures.number ∙ c.in_default.is)
    (omega (arith, c.len.ensures, c.if-len-ge-MOST_TEXTS.false)) c.known.ensures.state c.requires.length _ _
    c.in_ok-placed.ensures.placed c.in_ok-placed.ensures.text

pub put_listed-requires-clause-look : goal.put_listed-requires-clause-look
put_listed-requires-clause-look g c =
    rw c.in_ok-placed.ensures.text ((map_stays name_kind _ c.in_ok-placed.ensures.placed.1.outcome.frame c.requires.held.numbers
    (all_from_none (map_footprint name_kind c.args.a.now.memory c.args.self.now.numbers))).looks _ _ c.search-known.ensures.look)

pub returns : goal.returns
returns g c =
    interns_placed _ _ _ c.requires.held (sym c.search-known.ensures.number ∙ c.in_default.is)
    (omega (arith, c.len.ensures, c.if-len-ge-MOST_TEXTS.false)) c.known.ensures.state c.requires.length _ _
    c.in_ok-placed.ensures.placed c.in_ok-placed.ensures.text _ _ _ _ (λ memory m held b. c.texts_law.ensures.texts memory m b held)
    c.put_listed.ensures
