use Rattle.std.proofs.Common.{ℕ, ◌<◌, [], length, subst, arith, lit<}
use Rattle.std.proofs.lemmas.Iterator.Consumers.{YieldsList-at, YieldsList-turn, YieldsList-end}
use Rattle.std.proofs.lemmas.Iterator.Splits.{YieldsList-from_str_split}
use Rattle.std.proofs.lemmas.List.{length_push}
use Rattle.std.proofs.lemmas.List.Elements.{All-nil, All-same}
use Rattle.arena.proofs.AstLayers.{same_count, built_then, built_others, error_kept}
use Rattle.example_language.specs.Meaning.{reading}
use Rattle.example_language.specs.Parsing.{Fails, RefusesWord, StopsAt}
use Rattle.example_language.proofs.PlacingLemmas.{fails_too, word_comes, word_read, one_left, not_one}
use Rattle.example_language.proofs.ReadingLemmas.{none_read, room, stops}
use Rattle.example_language.proofs.parsing.parse.Goals as goal

pub words-init : goal.words-init
words-init g c =
    let split = c.split-word-items.ensures in
    record {
      built = record { fresh = c.new_in-tree.ensures.fresh c.args.a.now.memory; counts = same_count c.args.a.now.source };
      stack = All-same (λ (i : ℕ). i < c.new_in-tree.result.nodes.raw.len) _ [] c.new-stack.ensures (All-nil _);
      road = YieldsList-at c.into_iter-word-iterator.ensures.into_iter_gives
          (YieldsList-from_str_split 32 c.args.src.now (lit< tt) split.text split.has_more split.pattern);
      reads = record {
        trees = [];
        holds = record { rows_are = c.new_in-tree.ensures.rows c.args.a.now.memory; stack_is = c.new-stack.ensures };
        has = none_read c.args.src.now;
      };
    }

pub overflow_add-at-in-words : goal.overflow_add-at-in-words
overflow_add-at-in-words g c =
    let turn = YieldsList-turn c.words.invariant.road c.words.yielded _ c.words.yielded_by _ _ c.in-Some.word c.in-Some.is
    c.next.ensures.steps in
    omega (arith, room (word_comes (length c.words.yielded) c.words.invariant.reads c.in-Some.word.now turn))

pub words-preserved : goal.words-preserved
words-preserved g c =
    let turn = YieldsList-turn c.words.invariant.road c.words.yielded _ c.words.yielded_by _ _ c.in-Some.word c.in-Some.is
    c.next.ensures.steps in
    let before = c.words.invariant.reads in
    let read = c.in_ok-read_word.ensures in
    record {
      built = built_then c.words.invariant.built read.moved;
      stack = read.stack;
      road = c.words.invariant.road;
      reads = word_read (length c.words.yielded) before c.in-Some.word.now turn _ (length_push c.words.yielded c.in-Some.word)
          (read.reads before.trees before.holds);
    }

pub returns-in_err-read_word-clause-others : goal.returns-in_err-read_word-clause-others
returns-in_err-read_word-clause-others g c = built_others (built_then c.words.invariant.built c.in_err-read_word.ensures.moved)

pub returns-in_err-read_word-clause-wrong : goal.returns-in_err-read_word-clause-wrong
returns-in_err-read_word-clause-wrong g c =
    let turn = YieldsList-turn c.words.invariant.road c.words.yielded _ c.words.yielded_by _ _ c.in-Some.word c.in-Some.is
    c.next.ensures.steps in
    let before = c.words.invariant.reads in
    let has = word_comes (length c.words.yielded) before c.in-Some.word.now turn in
    error_kept (Fails (reading c.args.src.now) (StopsAt c.args.src.now c.args.a.now c.read_word.new.a)) _ c.from_residual.result
    c.from_residual.ensures (fails_too {P = RefusesWord c.in-Some.word.now c.words.at before.trees c.words.a c.read_word.new.a c.words.tree}
    {Q = StopsAt c.args.src.now c.args.a.now c.read_word.new.a} _ (λ f is. stops has is) (λ error refused. record {
      words_are = has.words_are;
      trees = before.trees;
      spelled = has.spells;
      before = c.words.a;
      tree = c.words.tree;
      built = c.words.invariant.built;
      rows_are = before.holds.rows_are;
      refused = subst (λ (n : ℕ). RefusesWord c.in-Some.word.now n before.trees c.words.a c.read_word.new.a c.words.tree error)
          has.place refused;
      seen = _;
      word = c.in-Some.word.now;
      later = _;
    }) (c.in_err-read_word.ensures.fails before.trees before.holds))

pub returns-then-len-ne1-clause-wrong : goal.returns-then-len-ne1-clause-wrong
returns-then-len-ne1-clause-wrong g c =
    let end = YieldsList-end c.words.invariant.road c.words.yielded _ c.words.yielded_by _ _ c.in-None.is c.next.ensures.steps in
    not_one (length c.words.yielded) c.words.invariant.reads (omega (arith, end.1))
    (λ one. let several = c.if-len-ne1.true in omega (arith, several, one, c.len.ensures))

pub returns-clause-reading : goal.returns-clause-reading
returns-clause-reading g c =
    let end = YieldsList-end c.words.invariant.road c.words.yielded _ c.words.yielded_by _ _ c.in-None.is c.next.ensures.steps in
    one_left (length c.words.yielded) c.words.invariant.reads (omega (arith, end.1))
    (let one = c.if-len-ne1.false in omega (arith, one, c.len.ensures))
