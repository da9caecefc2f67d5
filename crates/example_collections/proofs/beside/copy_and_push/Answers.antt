use Rattle.std.proofs.Common.{List, [], ◌∷◌, ◌++◌, ap, refl, subst, ◌∙◌}
use Rattle.std.proofs.lemmas.Result.{err_from_is_err_and}
use Rattle.arena_clone.specs.Copies.{IsMade}
use Rattle.arena_clone.specs.laws.KindLaws.{vec_lawful}
use Rattle.arena_clone.specs.Kinds.{vec_of}
use Rattle.arena_clone.proofs.Layers.{made_readable}
use Rattle.example_collections.proofs.BesideLemmas.{first_apart, beside_apart, beside_frame}
use Rattle.example_collections.proofs.beside.copy_and_push.Goals as goal

pub returns-in_err-copy : goal.returns-in_err-copy
returns-in_err-copy g c =
    let p = err_from_is_err_and c.from_residual.result c.from_residual.ensures.1 in
    let copy = c.in_err-copy.ensures in
    let stays = c.frame_law.ensures c.args.a.now.memory c.clone_within.new.a.memory [] copy.blocks c.args.list.now copy.placed.frame
    c.requires.held.0 (tt, tt) in
    rw (p.1, p.2) (record {
      calls = record { between = c.clone_within.new.a; copied = _; copies = copy; pushes = (refl, refl, refl) };
      copy = tt;
      list = tt;
      refused = (refl, stays.means);
    })

pub returns-in_err-push : goal.returns-in_err-push
returns-in_err-push g c =
    let p = err_from_is_err_and c.from_residual-in_err-push.result c.from_residual-in_err-push.ensures.1 in
    let copy = c.in_ok-copy.ensures in
    let stays = c.frame_law.ensures c.args.a.now.memory c.clone_within.new.a.memory [] copy.blocks c.args.list.now copy.placed.frame
    c.requires.held.0 (tt, tt) in
    let left = c.in_err-push.ensures.err in
    rw (p.1, p.2) (record {
      calls = record { between = c.clone_within.new.a; copied = _; copies = copy; pushes = (_, c.in_err-push.ensures, refl) };
      copy = tt;
      list = tt;
      refused = (left.0, rw (left.0, left.1) stays.means);
    })

pub returns : goal.returns
returns g c =
    let copy = c.in_ok-copy.ensures in
    let old = c.args.a.now.memory in
    let mid = c.clone_within.new.a.memory in
    let new = c.push.new.a.memory in
    let before = c.args.list.now.raw.block in
    let after = c.push.new.self.raw.block in
    let stays = c.frame_law.ensures old mid [] copy.blocks c.args.list.now copy.placed.frame c.requires.held.0 (tt, tt) in
    let kind = vec_of g.T.Item g.T.CloneIn.kind in
    let is = vec_lawful g.T.Item g.T.CloneIn.kind g.met.T.CloneIn.lawful in
    let all = c.copy_law.ensures.apart old mid copy.blocks c.args.list.now copy.placed.frame c.requires.held in
    let apart = first_apart copy.blocks _ before all in
    let made = c.copy_law.ensures.copy mid new copy.blocks (before ∷ []) (after ∷ []) _ c.in_ok-copy.copy copy.made c.push.ensures.frame
    apart in
    record {
      calls = record { between = c.clone_within.new.a; copied = _; copies = copy; pushes = (_, c.in_ok-push.ensures, refl) };
      copy = (
        copy.blocks,
        subst (λ meaning. IsMade kind meaning new copy.blocks c.in_ok-copy.copy) (c.copy_law.ensures.ids _) made,
        beside_apart mid new copy.blocks before after c.push.ensures.frame (made_readable is copy.made) apart copy.placed.apart,
        beside_frame old mid new copy.blocks before after copy.placed.frame c.push.ensures.frame,
      );
      list = c.in_ok-push.ensures.list_is ∙ ap (λ (xs : List g.row.T.Denot). xs ++ c.args.value ∷ []) stays.means;
      refused = tt;
    }
