-- `slice` shows a part of the ready bytes. Assumes `Logic`.
use Rattle.std.proofs.Common.{◌≡◌, ◌+◌, ◌-◌, ◌*◌, ◌^◌, ◌≤◌, List, [], ◌∷◌, length, take, length-take-le, length-drop, refl, sym, ap, ◌∙◌, arith}
use lib.ListN.{drop as drop_l}
use seplogic.Ra.Ura.{Ura}
use base.Fraction.{full_share}
use mir.Syntax.{Fn, w64}
use mir.Val.{Val, vptr, vint}
use base.Logic.{SProp, ent, never, id⊢}
use base.Fml.{ftrue, fat, flft}
use denote.Param.{layout}
use prog.Memory.{Memory}
use prog.Routine.{Routine}
use prog.Wp.{Calls, Loops, WpFn, Tables}
use contract.Monad.{Fun, fact}
use contract.Running.{tables, tables_of}
use sound.WpLaws.{WpFn-mono}
use types.Logic.{Logic}
use types.Kit.{‵, raw, ◌⊛◌, prop, ◌$◌, ◌∵◌, !, qed, move, keep, drop, use1, split, join, frame, rewrite, fsplit, fjoin, feq_l, feq_i, flt_l, flt_i, suffices, done, at_ret}
use types.Part.{whole, sub, agg}
use types.Run.{stop, fld, of_opd, bin, and_then, no_more, first, blocks, exec, enter, returns}
use types.ByLocal.{alloc_all, pass_all, free_all, look_at, get, get_in, take_at, give_at, sets, sets_last, env}
use denote.Exit.{yes}
use denote.RattleType.{owns}
use denote.Builtin.{u8, usize, RefOf}
use denote.Opens.{hide, unhide}
use denote.Slice.{slice_val, elements_shared}
use denote.RawPtr.{Ptr, in_a_block}
use denote.Signature.{plain, types_at}
use denote.Steps.{nothing, heard}
use denote.Triple.Clauses.{Clauses, Ended, closing}
use denote.Triple.Spec.{Meets, triple_of}
use denote.Triple.Table.{entered}
use denote.Triple.Walked.{says, Stays, stay_dropped, walk_of, ends_at, walk_Meets, Goes-dropped}
use Rattle.arena_region.specs.Ownership.{store_lends}
use Rattle.arena_region.proofs.Memory.{seen_from, seen_first}
use Rattle.arena_region.proofs.Steps.{St, Bs, word, word-good, word_had, tail, passed}
use Rattle.arena_region.specs.contracts.store.Store.slice as F
use Rattle.arena_region.specs.contracts.store.Store.slice.Key.{name as #self}
use Rattle.arena_region.proofs.store.Store.slice.Statement as stated
use Rattle.arena_region.proofs.store.Store.slice.Code as code

abbrev function : Fn
function = code.function

abbrev ended : Ended
ended = F.ended

abbrev stayed : Stays ended.signature.params ended.kept
stayed = (
  stay_dropped (RefOf (0 ∷ []) tt (plain (λ _. St)) (λ _. tt)) yes,
  (stay_dropped (plain (λ _. Bs)) yes, (stay_dropped (plain (λ _. usize)) yes, (stay_dropped (plain (λ _. usize)) yes, tt))),
)

module _ {M : Type 1} {𝓤 : Ura M} (𝓛 : Logic 𝓤) (at_mem : Memory → SProp 𝓤) (run : Routine → Fun 𝓤) where
  open 𝓛 use {H}

  abbrev held : Clauses 𝓤 ended
  held = F.clauses 𝓛 at_mem run

  module _ (C : Calls 𝓤 H) (Λ : Loops 𝓤 H) (z : (walk_of 𝓛 ended stayed held).Ghost) where
    abbrev Post : Val → SProp 𝓤
    Post = (walk_of 𝓛 ended stayed held).post z

    walks : ent 𝓤 ((walk_of 𝓛 ended stayed held).pre z) (WpFn 𝓤 H C Λ function ((walk_of 𝓛 ended stayed held).args z) Post)
    walks =
        let a = z.0.3 in let vss = z.0.4 in let κ = z.0.0.0 in let q = z.0.1.0 in let d = a.0.now in let rb = a.0.ref_ptr.0 in
        let ro = a.0.ref_ptr.1 in
        let base = a.1.0 in let from = a.1.1.0 in let size = a.1.1.1.0 in let ys = take size (drop_l (from - d.room) d.ready) in
        let Asked = (base.ptr ≡ d.at) × (d.room ≤ from) × (from + size ≤ d.room + length d.ready) in
        qed 𝓛 (((‵ (flft κ q) ⊛ ‵ ftrue) ⊛ ‵ (owns (types_at ended.signature.params z.0.0) a vss)) ∷ raw (fact 𝓤 Asked) ∷ []) ∵
        move ! (1 ∷ []) $ heard ! Asked (λ asked. split ! $ split ! $ move ! (2 ∷ []) $
        let low = asked.1 in let high = asked.2 in
        let long : length ys ≡ size = length-take-le size _ (omega (arith, length-drop (from - d.room) d.ready)) in
        fsplit ! $ fsplit ! $ feq_l ! (λ is₀. move ! (1 ∷ []) $ fsplit ! $ word_had ! base.ptr vss.1.0 (λ is₁.
        fsplit ! $ fsplit ! $ feq_l ! (λ is₂. flt_l ! (λ far. fsplit ! $ fsplit ! $ feq_l ! (λ is₃. flt_l ! (λ fits. keep ! (1 ∷ 2 ∷ []) $
        passed ! (λ us. prop (WpFn 𝓤 H C Λ function us Post)) (vss.0 ∷ vss.1.0 ∷ vss.1.1.0 ∷ vss.1.1.1.0 ∷ [])
        ((vptr rb ro ∷ []) ∷ (word base.ptr ∷ []) ∷ (vint w64 from ∷ []) ∷ (vint w64 size ∷ []) ∷ [])
        (λ i. is₀ i ∷ is₁ i ∷ is₂ i ∷ is₃ i ∷ []) $
        enter ! C Λ function (vptr rb ro ∷ word base.ptr ∷ vint w64 from ∷ vint w64 size ∷ []) Post $
        alloc_all ! (λ l. pass_all ! refl (
          (tt, tt),
          (word-good base.ptr, ((tt, record { fits = far }), ((tt, record { fits = fits }), tt))),
        ) $
        unhide ! $ fsplit ! $ drop ! $ in_a_block ! d.at (λ p. store_lends p d.room d.ready κ) (id⊢ 𝓤 (never 𝓤)) (λ b o e. fsplit ! $
        flt_l ! (λ fit.
        take_at ! 2 $ rewrite ! 0 (λ (p : Ptr). ‵ (fat full_share (layout Bs) (l 2) 0 (word p))) (asked.0 ∙ e) refl $ give_at ! 2 $
        first ! $ blocks ! $
        sets ! (bin ! (get_in ! (fld ! refl (stop !)) (sub ! 0 refl (whole !))) (get ! refl) tt) refl (tt, tt) $
        use1 𝓛 (‵ (elements_shared u8 (drop_l (from - d.room) d.ready) b (from + o) κ))
        (seen_from 𝓛 b κ (from - d.room) d.ready (o + d.room) (from + o) (omega arith)) $
        use1 𝓛 (‵ (elements_shared u8 ys b (from + o) κ)) (seen_first 𝓛 b κ size (drop_l (from - d.room) d.ready) (from + o)) $ hide ! $
        sets_last ! (agg ! (and_then ! (get ! refl) (and_then ! (get ! refl) (no_more !)))) refl (tt, (tt, (record { fits = fits }, tt))) $
        exec ! C Λ (env function.locals l) (tail function.body) (at_ret (env function.locals l) Post) $
        sets ! (of_opd ! (get ! refl)) refl (tt, (tt, (record { fits = fits }, tt))) $
        flt_i ! (length ys * 1) (2 ^ 63) (omega arith) $ flt_i ! (length ys) (2 ^ 64) (omega arith) $ fjoin ! $
        feq_i ! (List Val) (slice_val (b, from + o) size ∷ []) (slice_val (b, from + o) (length ys) ∷ [])
        (ap (λ k. slice_val (b, from + o) k ∷ []) (sym long)) $ fjoin ! $ fjoin ! $
        returns ! (look_at ! 0 refl) $ free_all ! refl $ keep ! (1 ∷ 0 ∷ []) $
        suffices ! _ (ends_at 𝓛 ended stayed held z (slice_val (b, from + o) size) (record { ref_ptr = (b, from + o); now = ys })
        (tt, (tt, (tt, (tt, tt)))) (tt, (tt, (tt, (tt, tt))))) $
        says ! refl $
        nothing ! $ move ! (1 ∷ 0 ∷ []) $ join ! $ frame ! $ nothing ! $ nothing ! $ fjoin ! $ nothing ! $ fjoin ! $ nothing ! $
        fjoin ! $ nothing ! $ fjoin ! $ done !))))))))))

  meets : (𝓣 : Tables 𝓤 H) → Meets 𝓛 ended.signature (WpFn 𝓤 H 𝓣.C 𝓣.Λ function) (closing 𝓛 ended held)
  meets 𝓣 =
      walk_Meets 𝓛 ended stayed (
        Goes-dropped 𝓛 1 (RefOf (0 ∷ []) tt (plain (λ _. St)) (λ _. tt)) yes (λ κs x f. refl),
        (
          Goes-dropped 𝓛 1 (plain (λ _. Bs)) yes (λ κs x f. refl),
          (Goes-dropped 𝓛 1 (plain (λ _. usize)) yes (λ κs x f. refl), (Goes-dropped 𝓛 1 (plain (λ _. usize)) yes (λ κs x f. refl), tt)),
        ),
      )
      held (WpFn 𝓤 H 𝓣.C 𝓣.Λ function) (WpFn-mono 𝓤 H 𝓛.laws 𝓣 function) (walks 𝓣.C 𝓣.Λ)

pub slice_spec : {M : Type 1} → stated.statement M
unfolding tables_of
slice_spec 𝓤 𝓛 𝓜 𝓡 wired =
    let 𝓣 : Tables 𝓤 𝓛.H = tables_of 𝓤 𝓛.H 𝓜 (tables 𝓤 𝓛.H 𝓜 𝓡 𝓡.env) in
    entered 𝓤 𝓛.H (triple_of 𝓛 ended.signature (closing 𝓛 ended (held 𝓛 𝓜.mem 𝓡.returns))) 𝓣.C 𝓣.Λ #self function
    (code.unfolded 𝓤 𝓛.H 𝓜 𝓡 wired) (meets 𝓛 𝓜.mem 𝓡.returns 𝓣)
