use Rattle.std.proofs.Common.{◌∷◌, ◌∙◌, sym, ap, Some, inl, inr, Option, rules}
use Rattle.arena.proofs.AstLayers.{moved_then, below_pushed, list_length, error_kept}
use Rattle.example_language.specs.Meaning.{applied}
use Rattle.example_language.specs.Trees.{node_item}
use Rattle.example_language.specs.declared.parsing.Token.{Token}
use Rattle.example_language.proofs.PlacingLemmas.{applies_now, too_deep, completed, room_left, fails_too}
use Rattle.example_language.proofs.parsing.read_word.Goals as goal

pub returns-in_default-clause-fails : goal.returns-in_default-clause-fails
returns-in_default-clause-fails g c trees placed =
    ap (λ (o : Option Token). applied o c.args.word.now c.args.at trees) (sym c.in_default.ensures)

pub returns-in_err-node-clause-fails : goal.returns-in_err-node-clause-fails
returns-in_err-node-clause-fails g c =
    error_kept _ _ c.from_residual.result c.from_residual.ensures
    (λ trees placed. fails_too _
    (λ f is. ap (λ (o : Option Token). applied o c.args.word.now c.args.at trees) (sym c.in-Some.ensures) ∙ is)
    (λ error refused. inl (sym c.in-Some.ensures ∙ ap (λ (t : Token). Some t) refused.0, refused.1))
    (c.in_err-node.ensures.fails trees placed))

pub returns-then-is_full-clause-fails : goal.returns-then-is_full-clause-fails
returns-then-is_full-clause-fails g c trees placed =
    too_deep (c.in_ok-node.ensures.completes trees placed) c.in-Some.ensures (let full = c.if-is_full.ensures.value in search (rules, full))

pub returns-in_err-index-clause-moved : goal.returns-in_err-index-clause-moved
returns-in_err-index-clause-moved g c =
    moved_then c.in_ok-node.ensures.moved (record { moves = c.in_err-index.ensures.moves; counts = c.in_err-index.ensures.counts })

pub returns-in_err-index-clause-fails : goal.returns-in_err-index-clause-fails
returns-in_err-index-clause-fails g c =
    let room = room_left _ c.if-is_full.ensures.value c.if-is_full.ensures.fits in
    error_kept _ _ c.from_residual-in_err-index.result c.from_residual-in_err-index.ensures (λ trees placed.
    let by = c.in_ok-node.ensures.completes trees placed in
    inr (record {
      more = by.tree ∷ by.others;
      applies = applies_now by c.in-Some.ensures room;
      before = c.node_of.new.a;
      named = c.node_of.new.tree;
      moved = c.in_ok-node.ensures.moved;
      node = c.in_ok-node.node;
      rows_are = by.rows_are;
      refused = c.in_err-index.ensures.refused;
    }))

pub returns : goal.returns
returns g c =
    let node = c.in_ok-node.ensures in
    let added = c.in_ok-index.ensures in
    let room = room_left _ c.if-is_full.ensures.value c.if-is_full.ensures.fits in
    record {
      moved = moved_then node.moved (record { moves = added.moves; counts = added.counts });
      stack = below_pushed _ _ _ _ _ node.stack added.index added.len c.push.ensures.items;
      reads = λ trees placed. (let by = node.completes trees placed in record {
        more = by.tree ∷ by.others;
        applies = applies_now by c.in-Some.ensures room;
        placed = completed by c.in_ok-index.index added.rows
            (added.index ∙ sym (list_length node_item c.node_of.new.a.memory c.node_of.new.tree.nodes)) c.push.ensures.items;
      });
      fails = tt;
    }
