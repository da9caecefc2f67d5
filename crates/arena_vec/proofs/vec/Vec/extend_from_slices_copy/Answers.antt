use Rattle.std.proofs.Common.{arith, ◌≡◌, ◌+◌, ◌^◌, ◌<◌, ap, ◌∙◌, ◌++◌, length}
use Rattle.std.specs.List.{flat_map}
use Rattle.std.proofs.lemmas.Result.{err_from_is_err_and}
use Rattle.arena_vec.proofs.VecLemmas.{grows, refused, same_list}
use Rattle.arena_vec.proofs.BulkLemmas.{cut_growth}
use Rattle.arena_vec.proofs.vec.Vec.extend_from_slices_copy.Goals as goal

pub returns-in_err-raw : goal.returns-in_err-raw
returns-in_err-raw g c =
    let v = c.args.self.now in
    let few : v.raw.cap < 2 ^ 32 = omega arith in
    let p = err_from_is_err_and c.from_residual.result c.from_residual.ensures.1 in
    let made = rw c.count_all-n.ensures at c.in_err-raw.ensures.made in
    rw (p.1, p.2) (refused g.T.Item c.args.a.now c.roomy.new.a v _ _ c.in_err-raw.field-0.0 c.requires.held
    (rw (cut_growth g.T.Item.SIZE v.raw.cap v.raw.len _ few) at made) c.in_err-raw.ensures.err)

pub returns : goal.returns
returns g c =
    let raw = c.in_ok-raw.raw in
    let v = c.args.self.now in
    let more = flat_map (λ s. s.now) c.args.slices.now in
    let put = c.put_all.ensures in
    let n : c.count_all-n.result ≡ length more = omega (arith, c.count_all-n.ensures, c.in_ok-raw.ensures.enough) in
    let grown = rw n at c.in_ok-raw.ensures.grown in
    rw n (grows _ c.args.a.now _ v _ _ _ (raw.len + length more) _ tt (rw n at c.in_ok-raw.ensures.made) grown
    (omega (arith, grown.len, n, c.in_ok-raw.ensures.enough)) put.places put.frame
    (put.push ∙ ap (λ xs. xs ++ more) (same_list _ _ _ v _ _ c.requires.held grown)))
