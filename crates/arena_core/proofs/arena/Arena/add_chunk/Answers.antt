use Rattle.std.proofs.lemmas.Bool.Decides.{nat_tests}
use Rattle.std.proofs.Common.{ℕ, ◌+◌, ◌-◌, max, ◌∙◌, ap, sym, arith, List, ◌∷◌, length}
use Rattle.arena_rules.specs.Rounding.{down}
use Rattle.arena_rules.specs.Moves.{with_chunk}
use Rattle.arena_rules.proofs.RoundingLemmas.{max_power, min_align_power, layout_power}
use Rattle.arena_store.specs.Memory.{Memory}
use Rattle.arena_store.specs.declared.chunk.StoredChunk.{StoredChunk}
use Rattle.arena_core.proofs.GrowthLemmas.{adds_none, asked_stored, IsRoom, room_stored, IsInstalled, installed}
use Rattle.arena_core.proofs.arena.Arena.add_chunk.Given.{Over}
use Rattle.arena_core.proofs.arena.Arena.add_chunk.Goals as goal

pub returns-then-not-self-clause-added : goal.returns-then-not-self-clause-added
returns-then-not-self-clause-added g c =
    adds_none c.args.self.now _ _ _ (ap (λ (w : Memory). w.state.is_growing) (sym c.self.view_is) ∙ c.if-not-self.true)

pub returns-in_default-clause-added : goal.returns-in_default-clause-added
returns-in_default-clause-added g c = grind (arith, nat_tests, asked_stored)

pub install-requires-clause-fits : goal.install-requires-clause-fits
install-requires-clause-fits g c =
    let room = room_stored g.row.MIN_ALIGN c.self.inside c.args.self.now c.args.layout.size c.args.layout.align
    c.ask_above-base.result.refused c.ask_above-base.result.base (length c.in-Some.bytes.items) c.size.result c.end.result
    c.self.invariant c.self.view_is c.if-not-self.false c.args.layout.valid c.size.ensures c.end.ensures
    (rw c.in-Some.is at c.ask_above-base.ensures.granted) in
    omega (arith, room.top)

pub overflow_sub-last : goal.overflow_sub-last
overflow_sub-last g c =
    let room = room_stored g.row.MIN_ALIGN c.self.inside c.args.self.now c.args.layout.size c.args.layout.align
    c.ask_above-base.result.refused c.ask_above-base.result.base (length c.in-Some.bytes.items) c.size.result c.end.result
    c.self.invariant c.self.view_is c.if-not-self.false c.args.layout.valid c.size.ensures c.end.ensures
    (rw c.in-Some.is at c.ask_above-base.ensures.granted) in
    omega (arith, room.holds, ap (λ (chunk : StoredChunk). chunk.cursor) c.install.ensures.newest)

pub round_down_to-addr-requires : goal.round_down_to-addr-requires
round_down_to-addr-requires g c = grind (arith, nat_tests, max_power, layout_power, min_align_power)

room : (g : Over) (c : goal.After-round_down_to-addr g)
    → IsRoom c.args.self.now.state c.args.layout.size c.args.layout.align c.ask_above-base.result.refused c.ask_above-base.result.base
    (length c.in-Some.bytes.items)
room g c = room_stored g.row.MIN_ALIGN c.self.inside c.args.self.now c.args.layout.size c.args.layout.align c.ask_above-base.result.refused
    c.ask_above-base.result.base (length c.in-Some.bytes.items) c.size.result c.end.result
    c.self.invariant c.self.view_is c.if-not-self.false c.args.layout.valid c.size.ensures c.end.ensures
    (rw c.in-Some.is at c.ask_above-base.ensures.granted)

whole : (g : Over) (c : goal.After-round_down_to-addr g)
    → IsInstalled g.row.MIN_ALIGN c.self.inside c.args.self.now c.ask_above-base.result.base c.in-Some.bytes.items c.install.new.newest
    c.install.new.older.items
whole g c =
    installed g.row.MIN_ALIGN c.self.inside c.args.self.now c.ask_above-base.result.base c.in-Some.bytes c.install.new.newest
    c.install.new.older.items c.self.invariant c.self.view_is
    (room g c).valid c.install.ensures.newest c.install.ensures.ready (rw (← c.reserve.ensures.items) c.install.ensures.older)

pub invariant_of-self-2 : goal.invariant_of-self-2
invariant_of-self-2 g c = (whole g c).stored

pub returns-clause-added : goal.returns-clause-added
returns-clause-added g c =
    let all = asked_stored g.row.MIN_ALIGN c.self.inside c.args.self.now c.args.layout.size c.args.layout.align c.size.result c.end.result
    c.self.invariant c.self.view_is c.if-not-self.false c.size.ensures c.end.ensures in
    let zeros = rw c.in-Some.is at c.ask_above-base.ensures.zeros in
    let top = ap (λ (chunk : StoredChunk). chunk.cursor) c.install.ensures.newest in
    let unit = c.max.ensures ∙ ap (λ (w : Memory). max c.args.layout.align w.state.min_align) c.self.view_is in
    record {
      added = record {
        entry = (c.ask_above-base.result.base, length c.in-Some.bytes.items);
        asked = (room g c).asked;
        memory = (whole g c).view ∙ ap (λ (bytes : List ℕ). record {
          state =
              with_chunk (c.ask_above-base.result.base, length c.in-Some.bytes.items) c.args.self.now.state;
          statistics = c.args.self.now.statistics;
          bytes = bytes ∷ c.args.self.now.bytes;
        }) zeros;
        place = c.round_down_to-addr.ensures ∙ ap (λ (top : ℕ). down (top - c.args.layout.size) c.max.result) top
            ∙ ap (down (c.ask_above-base.result.base + length c.in-Some.bytes.items - c.args.layout.size)) unit;
        growing = (room g c).growing;
        valid = (room g c).old;
      };
      asked = rw (← all) c.ask_above-base.ensures.asked;
    }
