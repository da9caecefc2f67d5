-- `slice_mut` lends a part of the ready bytes, and the memory follows it. Assumes `Logic`.
use Rattle.std.proofs.Common.{◌≡◌, ℕ, ◌+◌, ◌-◌, ◌*◌, ◌^◌, ◌<◌, ◌≤◌, List, [], ◌∷◌, length, take, length-take-le, length-drop, refl, sym, ◌∙◌, arith}
use lib.ListN.{drop as drop_l}
use seplogic.Ra.Ura.{Ura}
use base.Fraction.{full_share}
use mir.Syntax.{Fn, named, w64}
use mir.Val.{Val, vptr, vint}
use base.Logic.{SProp, ent, sep, never, id⊢}
use base.Fml.{GName, Fml, fsep, ftrue, fat, froom, flft}
use denote.RawPtr.Bytes.{bytes}
use denote.Param.{layout}
use prog.Memory.{Memory}
use prog.Routine.{Routine}
use prog.Wp.{Calls, Loops, WpFn, Tables}
use contract.Monad.{Fun, fact}
use contract.Running.{tables, tables_of}
use sound.WpLaws.{WpFn-mono}
use types.Logic.{Logic, sem}
use types.Kit.{‵, raw, ◌⊛◌, some, later, await, pick, group, fpack, prop, ◌$◌, ◌∵◌, !, qed, move, keep, use1, use2, split, split3, join, frame, rewrite, fsplit, fsplit3, fjoin, feq_l, flt_l, flt_i, suffices, done, at_ret}
use types.Part.{whole, sub, agg}
use types.Run.{stop, fld, of_opd, bin, and_then, no_more, first, blocks, exec, enter, returns}
use types.ByLocal.{alloc_all, pass_all, free_all, look_at, get, get_in, take_at, give_at, sets, sets_last, env}
use denote.Exit.{yes, no}
use denote.RattleType.{owns}
use denote.Builtin.{u8, usize}
use denote.Index.{whole_in, whole_out}
use denote.Memory.{mem, cell_at, part_of}
use denote.Array.{Array}
use denote.RawPtr.Bytes.{bytes}
use denote.Follow.{follows}
use denote.FollowSlice.{Elements, lends_Elements}
use types.SemTy.{cells}
use denote.Slice.{MutSlice, slice_val}
use denote.Ref.{MutBor}
use denote.RawPtr.{Ptr, block_ptr, in_a_block}
use denote.Signature.{plain, mut_ref_to, types_at}
use denote.Steps.{nothing, heard, opens}
use denote.Triple.Clauses.{Clauses, Ended, closing}
use denote.Triple.Spec.{Meets, triple_of}
use denote.Triple.Table.{entered}
use denote.Triple.Walked.{says, Stays, stay_dropped, walk_of, ends_at, walk_Meets, Goes-dropped, Goes-spent_ref}
use Rattle.arena_region.specs.Lends.{with_ready}
use Rattle.arena_region.specs.Ownership.{block_of, store_owns}
use Rattle.arena_region.proofs.Memory.{written_long, Around, part_out, part_in}
use Rattle.arena_region.proofs.Steps.{St, Bs, Nothing, word, word-good, word_had, tail, passed}
use Rattle.arena_region.specs.contracts.store.Store.slice_mut as F
use Rattle.arena_region.specs.contracts.store.Store.slice_mut.Key.{name as #self}
use Rattle.arena_region.proofs.store.Store.slice_mut.Statement as stated
use Rattle.arena_region.proofs.store.Store.slice_mut.Code as code

abbrev function : Fn
function = code.function

abbrev ended : Ended
ended = F.ended

abbrev stayed : Stays ended.signature.params ended.kept
stayed = (
  stay_dropped (mut_ref_to (0 ∷ []) tt (plain (λ _. St))) no,
  (stay_dropped (plain (λ _. Bs)) yes, (stay_dropped (plain (λ _. usize)) yes, (stay_dropped (plain (λ _. usize)) yes, tt))),
)

module _ {M : Type 1} {𝓤 : Ura M} (𝓛 : Logic 𝓤) (at_mem : Memory → SProp 𝓤) (run : Routine → Fun 𝓤) where
  open 𝓛 use {H}

  abbrev held : Clauses 𝓤 ended
  held = F.clauses 𝓛 at_mem run

  -- everything but the part
  abbrev Rest : St.Denot → ℕ → ℕ → ℕ → ℕ → List Val → ℕ → ℕ → ℕ → Fml
  Rest d rb ro b o vs i k n =
      fsep (Around 𝓛 b (o + d.room) d.ready i k n)
      (fsep (froom (block_of d.room) b o) (fsep (Nothing.own_val tt vs) (cell_at full_share St.mir vs rb ro)))

  back : (d : St.Denot) (rb ro b o : ℕ) (vs : List Val) (i k n : ℕ) → d.at ≡ block_ptr b o → k ≡ o + d.room + i → i + n ≤ length d.ready
      → d.room + length d.ready < 2 ^ 63
      → (ws : List ℕ) → length ws ≡ n → ent 𝓤 (sep 𝓤 (sem 𝓛 (cells (mem u8) ws b k)) (sem 𝓛 (Rest d rb ro b o vs i k n)))
      (sem 𝓛 ((mem St).own_at (with_ready d i ws) rb ro))
  unfolding part_of
  back d rb ro b o vs i k n e here le fit ws long =
      let new : St.Denot = with_ready d i ws in let row = bytes full_share in let around = Around 𝓛 b (o + d.room) d.ready i k in
      qed 𝓛 (‵ (cells (mem u8) ws b k) ∷ ‵ (Rest d rb ro b o vs i k n) ∷ []) ∵ use1 𝓛 (‵ (row ws b k)) (whole_out 𝓛 u8 ws b k) $
      move ! (1 ∷ []) $ fsplit3 ! $ move ! (3 ∷ 0 ∷ []) $
      rewrite ! 1 (λ (m : ℕ). ‵ (around m)) {x = length ws} (sym long) refl $
      use2 𝓛 (‵ (row new.ready b (o + d.room))) (part_in 𝓛 b (o + d.room) d.ready i k here ws (omega arith)) $ fjoin ! $
      flt_i ! (d.room + length new.ready) (2 ^ 63) (omega (arith, written_long d.ready ws i)) $ fjoin ! $
      rewrite ! 0 (λ (p : Ptr). ‵ (store_owns p d.room new.ready)) (sym e) refl $
      move ! (1 ∷ []) $ fsplit ! $ move ! (0 ∷ 2 ∷ []) $ fjoin ! $ move ! (1 ∷ 0 ∷ []) $ fjoin ! $
      fpack ! (List Val) (λ us. fsep (cell_at full_share St.mir us rb ro) (St.own_val new us)) vs $ done !

  module _ (C : Calls 𝓤 H) (Λ : Loops 𝓤 H) (z : (walk_of 𝓛 ended stayed held).Ghost) where
    abbrev Post : Val → SProp 𝓤
    Post = (walk_of 𝓛 ended stayed held).post z

    walks : ent 𝓤 ((walk_of 𝓛 ended stayed held).pre z) (WpFn 𝓤 H C Λ function ((walk_of 𝓛 ended stayed held).args z) Post)
    walks =
        let a = z.0.3 in let vss = z.0.4 in let κ = z.0.0.0 in let q = z.0.1.0 in let d = a.0.now in let rb = a.0.ref_ptr.0 in
        let ro = a.0.ref_ptr.1 in
        let γ = a.0.ghost_name in let code' = St.coded.code d in
        let base = a.1.0 in let from = a.1.1.0 in let size = a.1.1.1.0 in let i = from - d.room in let ys = take size (drop_l i d.ready) in
        let Asked = (base.ptr ≡ d.at) × (d.room ≤ from) × (from + size ≤ d.room + length d.ready) in
        qed 𝓛 (((‵ (flft κ q) ⊛ ‵ ftrue) ⊛ ‵ (owns (types_at ended.signature.params z.0.0) a vss)) ∷ raw (fact 𝓤 Asked) ∷ []) ∵
        move ! (1 ∷ []) $ heard ! Asked (λ asked. split ! $ split ! $ move ! (2 ∷ []) $
        let low = asked.1 in let high = asked.2 in
        let long : length ys ≡ size = length-take-le size _ (omega (arith, length-drop i d.ready)) in
        fsplit ! $ fsplit3 ! $ feq_l ! (λ is₀. move ! (2 ∷ []) $ fsplit ! $ word_had ! base.ptr vss.1.0 (λ is₁.
        fsplit ! $ fsplit ! $ feq_l ! (λ is₂. flt_l ! (λ far. fsplit ! $ fsplit ! $
        feq_l ! (λ is₃. flt_l ! (λ fits. keep ! (1 ∷ 2 ∷ 3 ∷ []) $
        passed ! (λ us. prop (WpFn 𝓤 H C Λ function us Post)) (vss.0 ∷ vss.1.0 ∷ vss.1.1.0 ∷ vss.1.1.1.0 ∷ [])
        ((vptr rb ro ∷ []) ∷ (word base.ptr ∷ []) ∷ (vint w64 from ∷ []) ∷ (vint w64 size ∷ []) ∷ [])
        (λ i. is₀ i ∷ is₁ i ∷ is₂ i ∷ is₃ i ∷ []) $
        enter ! C Λ function (vptr rb ro ∷ word base.ptr ∷ vint w64 from ∷ vint w64 size ∷ []) Post $
        alloc_all ! (λ l. pass_all ! refl (
          (tt, tt),
          (word-good base.ptr, ((tt, record { fits = far }), ((tt, record { fits = fits }), tt))),
        ) $
        opens ! tt St {h = d} rb ro (λ vs. move ! (1 ∷ []) $ fsplit ! $ move ! (1 ∷ []) $
        in_a_block ! d.at (λ p. store_owns p d.room d.ready) (id⊢ 𝓤 (never 𝓤)) (λ b o e. fsplit3 ! $ flt_l ! (λ fit.
        let k = from + o in let row = bytes full_share in let here : k ≡ o + d.room + i = omega arith in
        take_at ! 2 $ rewrite ! 0 (λ (p : Ptr). ‵ (fat full_share (layout Bs) (l 2) 0 (word p))) (asked.0 ∙ e) refl $ give_at ! 2 $
        first ! $ blocks ! $
        sets ! (bin ! (get_in ! (fld ! refl (stop !)) (sub ! 0 refl (whole !))) (get ! refl) tt) refl (tt, tt) $
        use1 𝓛 (‵ (row ys b k) ⊛ ‵ (Around 𝓛 b (o + d.room) d.ready i k size))
        (part_out 𝓛 b (o + d.room) d.ready i k here size (omega arith)) $ split ! $
        use1 𝓛 (‵ (cells (mem u8) ys b k)) (whole_in 𝓛 u8 ys b k) $
        sets_last ! (agg ! (and_then ! (get ! refl) (and_then ! (get ! refl) (no_more !)))) refl (tt, (tt, (record { fits = fits }, tt))) $
        exec ! C Λ (env function.locals l) (tail function.body) (at_ret (env function.locals l) Post) $
        sets ! (of_opd ! (get ! refl)) refl (tt, (tt, (record { fits = fits }, tt))) $
        move ! (3 ∷ 4 ∷ []) $ fjoin ! $ move ! (3 ∷ 0 ∷ []) $ fjoin ! $ move ! (2 ∷ 0 ∷ []) $ fjoin ! $
        move ! (2 ∷ 3 ∷ 4 ∷ 1 ∷ 0 ∷ []) $ group ! 5 $
        let F : List ℕ → St.Denot = with_ready d i in let rest = Rest d rb ro b o vs i k size in
        let roomy : length ys < 2 ^ 64 = omega arith in let fitting : length ys * 1 < 2 ^ 63 = omega arith in
        let way = λ (ws : List ℕ) (same : length ws ≡ length ys). back d rb ro b o vs i k size e here (omega arith) fit ws (same ∙ long) in
        use1 𝓛 (later (some (λ (δ : GName). raw (Elements 𝓛 St u8 F (named 0) κ q rb ro b k γ ys (roomy, fitting) (sem 𝓛 rest) way δ))))
        (lends_Elements 𝓛 St u8 F (named 0) κ q rb ro b k γ ys (roomy, fitting) (sem 𝓛 rest) way code' code') $ await ! tt $ pick ! (λ δ.
        returns ! (look_at ! 0 refl) $ free_all ! refl $ keep ! (0 ∷ []) $
        let r : MutBor (List ℕ) = record { ref_ptr = (b, k); ghost_name = δ; now = ys } in
        let lent = λ (m : ℕ). (MutSlice (named 0) κ u8).own_val r (slice_val (b, k) m ∷ []) in
        use1 𝓛 (‵ (lent (length ys)) ⊛ ‵ (flft κ q) ⊛ ‵ (follows St (Array u8 0) γ δ F)) (id⊢ 𝓤 _) $ split3 ! $
        rewrite ! 0 (λ (m : ℕ). ‵ (lent m)) {x = size} long refl $
        suffices ! _ (ends_at 𝓛 ended stayed held z (slice_val (b, k) size) r (tt, (tt, (tt, (tt, tt)))) (tt, (tt, (tt, (tt, tt))))) $
        nothing ! $ nothing ! $ fjoin ! $ nothing ! $ fjoin ! $ nothing ! $ fjoin ! $ nothing ! $ fjoin ! $ join ! $ nothing ! $
        move ! (2 ∷ 0 ∷ []) $ join ! $ join ! $ frame ! $ says ! refl $ done !))))))))))))

  meets : (𝓣 : Tables 𝓤 H) → Meets 𝓛 ended.signature (WpFn 𝓤 H 𝓣.C 𝓣.Λ function) (closing 𝓛 ended held)
  meets 𝓣 =
      walk_Meets 𝓛 ended stayed (
        Goes-spent_ref 𝓛 1 (0 ∷ []) tt (plain (λ _. St)),
        (
          Goes-dropped 𝓛 1 (plain (λ _. Bs)) yes (λ κs x f. refl),
          (Goes-dropped 𝓛 1 (plain (λ _. usize)) yes (λ κs x f. refl), (Goes-dropped 𝓛 1 (plain (λ _. usize)) yes (λ κs x f. refl), tt)),
        ),
      )
      held (WpFn 𝓤 H 𝓣.C 𝓣.Λ function) (WpFn-mono 𝓤 H 𝓛.laws 𝓣 function) (walks 𝓣.C 𝓣.Λ)

pub slice_mut_spec : {M : Type 1} → stated.statement M
unfolding tables_of
slice_mut_spec 𝓤 𝓛 𝓜 𝓡 wired =
    let 𝓣 : Tables 𝓤 𝓛.H = tables_of 𝓤 𝓛.H 𝓜 (tables 𝓤 𝓛.H 𝓜 𝓡 𝓡.env) in
    entered 𝓤 𝓛.H (triple_of 𝓛 ended.signature (closing 𝓛 ended (held 𝓛 𝓜.mem 𝓡.returns))) 𝓣.C 𝓣.Λ #self function
    (code.unfolded 𝓤 𝓛.H 𝓜 𝓡 wired) (meets 𝓛 𝓜.mem 𝓡.returns 𝓣)
