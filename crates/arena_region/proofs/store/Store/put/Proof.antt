-- `put` takes the last byte of the room, and makes it the first of the ready bytes. Assumes `Logic`.
use Rattle.std.proofs.Common.{◌≡◌, ◌+◌, ◌^◌, List, [], ◌∷◌, length, refl, sym, ◌∙◌, arith}
use seplogic.Ra.Ura.{Ura}
use base.Fraction.{full_share}
use mir.Syntax.{Fn, w8, w64}
use mir.Val.{Val, vptr, vint, vunit}
use base.Logic.{SProp, ent, never, id⊢}
use base.Fml.{ftrue, fat, froom, flft}
use denote.Memory.{part_at}
use denote.Plain.{uint_in}
use denote.RawPtr.Bytes.{bytes}
use denote.Param.{layout}
use prog.Memory.{Memory}
use prog.Routine.{Routine}
use prog.Wp.{Calls, Loops, WpFn, Tables}
use contract.Monad.{Fun, fact}
use contract.Running.{tables, tables_of}
use sound.WpLaws.{WpFn-mono}
use types.Logic.{Logic}
use types.Kit.{‵, raw, ◌⊛◌, prop, ◌$◌, ◌∵◌, !, qed, move, keep, use1, split, join, frame, rewrite, fsplit, fsplit3, fjoin, fjoin3, feq_l, feq_i, flt_l, flt_i, suffices, done, at_ret}
use types.Part.{whole, sub}
use types.Run.{init, stop, fld, unit_lit, of_opd, bin, assigns_last, first, blocks, exec, enter, returns}
use types.ByLocal.{alloc_all, pass_all, free_all, look_at, get, get_in, take_at, give_at, through, sets, env}
use denote.Exit.{yes}
use denote.RattleType.{owns}
use denote.Builtin.{u8, usize}
use denote.RawPtr.{Ptr, in_a_block}
use denote.Signature.{plain, types_at}
use denote.Steps.{nothing, heard, opens, closes}
use denote.Triple.Clauses.{Clauses, Ended, closing}
use denote.Triple.Spec.{Meets, triple_of}
use denote.Triple.Table.{entered}
use denote.Triple.Walked.{says, Stays, stay_ref, stay_dropped, walk_of, ends_at, walk_Meets, Goes-dropped, Goes-ref}
use Rattle.arena_region.specs.Ownership.{block_of, store_owns}
use Rattle.arena_region.proofs.Memory.{byte, last_out}
use Rattle.arena_region.proofs.Steps.{St, Bs, word, word-good, word_had, tail, passed}
use Rattle.arena_region.specs.contracts.store.Store.put as F
use Rattle.arena_region.specs.contracts.store.Store.put.Key.{name as #self}
use Rattle.arena_region.proofs.store.Store.put.Statement as stated
use Rattle.arena_region.proofs.store.Store.put.Code as code

abbrev function : Fn
function = code.function

abbrev ended : Ended
ended = F.ended

abbrev stayed : Stays ended.signature.params ended.kept
stayed = (
  stay_ref (0 ∷ []) tt (plain (λ _. St)),
  (stay_dropped (plain (λ _. Bs)) yes, (stay_dropped (plain (λ _. usize)) yes, (stay_dropped (plain (λ _. u8)) yes, tt))),
)

module _ {M : Type 1} {𝓤 : Ura M} (𝓛 : Logic 𝓤) (at_mem : Memory → SProp 𝓤) (run : Routine → Fun 𝓤) where
  open 𝓛 use {H}

  abbrev held : Clauses 𝓤 ended
  held = F.clauses 𝓛 at_mem run

  module _ (C : Calls 𝓤 H) (Λ : Loops 𝓤 H) (z : (walk_of 𝓛 ended stayed held).Ghost) where
    abbrev Post : Val → SProp 𝓤
    Post = (walk_of 𝓛 ended stayed held).post z

    walks : ent 𝓤 ((walk_of 𝓛 ended stayed held).pre z) (WpFn 𝓤 H C Λ function ((walk_of 𝓛 ended stayed held).args z) Post)
    walks =
        let a = z.0.3 in let vss = z.0.4 in let κ = z.0.0.0 in let q = z.0.1.0 in let d = a.0.now in let rb = a.0.ref_ptr.0 in
        let ro = a.0.ref_ptr.1 in
        let base = a.1.0 in let at = a.1.1.0 in let x = a.1.1.1.0 in
        let new : St.Denot = record { at = d.at; room = at; ready = x ∷ d.ready } in
        let Asked = (base.ptr ≡ d.at) × (at + 1 ≡ d.room) in
        qed 𝓛 (((‵ (flft κ q) ⊛ ‵ ftrue) ⊛ ‵ (owns (types_at ended.signature.params z.0.0) a vss)) ∷ raw (fact 𝓤 Asked) ∷ []) ∵
        move ! (1 ∷ []) $ heard ! Asked (λ asked. split ! $ split ! $ move ! (2 ∷ []) $
        fsplit ! $ fsplit3 ! $ feq_l ! (λ is₀. move ! (2 ∷ []) $ fsplit ! $ word_had ! base.ptr vss.1.0 (λ is₁.
        fsplit ! $ fsplit ! $ feq_l ! (λ is₂. flt_l ! (λ far. fsplit ! $ fsplit ! $
        feq_l ! (λ is₃. flt_l ! (λ small. keep ! (1 ∷ 2 ∷ 3 ∷ []) $
        passed ! (λ us. prop (WpFn 𝓤 H C Λ function us Post)) (vss.0 ∷ vss.1.0 ∷ vss.1.1.0 ∷ vss.1.1.1.0 ∷ [])
        ((vptr rb ro ∷ []) ∷ (word base.ptr ∷ []) ∷ (vint w64 at ∷ []) ∷ (vint w8 x ∷ []) ∷ []) (λ i. is₀ i ∷ is₁ i ∷ is₂ i ∷ is₃ i ∷ []) $
        enter ! C Λ function (vptr rb ro ∷ word base.ptr ∷ vint w64 at ∷ vint w8 x ∷ []) Post $
        alloc_all ! (λ l. pass_all ! refl (
          (tt, tt),
          (word-good base.ptr, ((tt, record { fits = far }), ((tt, record { fits = small }), tt))),
        ) $
        opens ! tt St {h = d} rb ro (λ vs. move ! (1 ∷ []) $ fsplit ! $ move ! (1 ∷ []) $
        in_a_block ! d.at (λ p. store_owns p d.room d.ready) (id⊢ 𝓤 (never 𝓤)) (λ b o e. fsplit3 ! $ flt_l ! (λ fit.
        take_at ! 2 $ rewrite ! 0 (λ (p : Ptr). ‵ (fat full_share (layout Bs) (l 2) 0 (word p))) (asked.0 ∙ e) refl $ give_at ! 2 $
        first ! $ blocks ! $
        move ! (1 ∷ []) $ use1 𝓛 (‵ (froom byte b (at + o)) ⊛ ‵ (froom (block_of at) b o)) (last_out 𝓛 at d.room b o asked.1) $ split ! $
        sets ! (bin ! (get_in ! (fld ! refl (stop !)) (sub ! 0 refl (whole !))) (get ! refl) tt) refl (tt, tt) $
        assigns_last ! (of_opd ! (get ! refl)) (through ! refl (stop !)) (init ! 0 refl (tt, record { fits = small })) $
        exec ! C Λ (env function.locals l) (tail function.body) (at_ret (env function.locals l) Post) $
        sets ! (of_opd ! (unit_lit !)) refl (tt, tt) $
        use1 𝓛 (‵ (part_at u8 full_share x b (at + o))) (uint_in 𝓛 full_share w8 x b (at + o)) $
        rewrite ! 0 (λ k. ‵ (part_at u8 full_share x b k)) {x = o + at} (omega arith) refl $
        move ! (0 ∷ 2 ∷ []) $ rewrite ! 1 (λ k. ‵ (bytes full_share d.ready b k)) {x = o + at + 1} (omega (arith, asked.1)) refl $
        fjoin ! $ fjoin ! $
        flt_i ! (at + length (x ∷ d.ready)) (2 ^ 63) (omega (arith, asked.1)) $ fjoin ! $
        rewrite ! 0 (λ (p : Ptr). ‵ (store_owns p at new.ready)) (sym e) refl $
        move ! (1 ∷ 0 ∷ []) $ fjoin ! $ move ! (1 ∷ 0 ∷ []) $ closes ! tt St new vs rb ro $
        returns ! (look_at ! 0 refl) $ free_all ! refl $ keep ! (0 ∷ 1 ∷ 2 ∷ []) $ feq_i ! (List Val) (vunit ∷ []) (vunit ∷ []) refl $
        move ! (1 ∷ 2 ∷ 3 ∷ 0 ∷ []) $
        suffices ! _ (ends_at 𝓛 ended stayed held z vunit tt (new, (tt, (tt, (tt, tt)))) (tt, (tt, (tt, (tt, tt))))) $
        says ! (refl, refl, refl) $
        nothing ! $ move ! (3 ∷ 0 ∷ []) $ join ! $ frame ! $ feq_i ! (List Val) vss.0 (vptr rb ro ∷ []) is₀ $ fjoin3 ! $
        nothing ! $ nothing ! $ fjoin ! $ nothing ! $ fjoin ! $ nothing ! $ fjoin ! $ move ! (1 ∷ 0 ∷ []) $ fjoin ! $ done !)))))))))))

  meets : (𝓣 : Tables 𝓤 H) → Meets 𝓛 ended.signature (WpFn 𝓤 H 𝓣.C 𝓣.Λ function) (closing 𝓛 ended held)
  meets 𝓣 =
      walk_Meets 𝓛 ended stayed (
        Goes-ref 𝓛 1 0 tt (plain (λ _. St)),
        (
          Goes-dropped 𝓛 1 (plain (λ _. Bs)) yes (λ κs x f. refl),
          (Goes-dropped 𝓛 1 (plain (λ _. usize)) yes (λ κs x f. refl), (Goes-dropped 𝓛 1 (plain (λ _. u8)) yes (λ κs x f. refl), tt)),
        ),
      )
      held (WpFn 𝓤 H 𝓣.C 𝓣.Λ function) (WpFn-mono 𝓤 H 𝓛.laws 𝓣 function) (walks 𝓣.C 𝓣.Λ)

pub put_spec : {M : Type 1} → stated.statement M
unfolding tables_of
put_spec 𝓤 𝓛 𝓜 𝓡 wired =
    let 𝓣 : Tables 𝓤 𝓛.H = tables_of 𝓤 𝓛.H 𝓜 (tables 𝓤 𝓛.H 𝓜 𝓡 𝓡.env) in
    entered 𝓤 𝓛.H (triple_of 𝓛 ended.signature (closing 𝓛 ended (held 𝓛 𝓜.mem 𝓡.returns))) 𝓣.C 𝓣.Λ #self function
    (code.unfolded 𝓤 𝓛.H 𝓜 𝓡 wired) (meets 𝓛 𝓜.mem 𝓡.returns 𝓣)
