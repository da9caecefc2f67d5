-- `nowhere` returns an address with no room and no bytes. Assumes `Logic`.
use Rattle.std.proofs.Common.{◌^◌, [], ◌∷◌, refl, arith}
use seplogic.Ra.Ura.{Ura}
use mir.Syntax.{Fn}
use mir.Val.{Val}
use base.Logic.{SProp, ent}
use base.Fml.{froom}
use prog.Memory.{Memory}
use prog.Routine.{Routine}
use prog.Wp.{Calls, Loops, WpFn, Tables}
use contract.Monad.{Fun}
use contract.Running.{tables, tables_of}
use sound.WpLaws.{WpFn-mono}
use types.Logic.{Logic}
use types.Kit.{‵, raw, ◌$◌, ◌∵◌, !, qed, keep, use0, fjoin, flt_i, suffices, done}
use types.Part.{agg}
use types.Run.{stop, from, addr, and_then, no_more, enter, returns}
use types.ByLocal.{alloc_all, pass_all, free_all, look_at, get, sets}
use denote.RawPtr.{block_ptr}
use denote.Steps.{nothing}
use denote.Triple.Clauses.{Clauses, Ended, closing}
use denote.Triple.Spec.{Meets, triple_of}
use denote.Triple.Table.{entered}
use denote.Triple.Walked.{says, Stays, walk_of, ends_at, walk_Meets}
use Rattle.arena_region.specs.Ownership.{block_of}
use Rattle.arena_region.proofs.Memory.{byte}
use Rattle.arena_region.proofs.Steps.{St, Bs, word, word-good, none, two, word_made, store_made, two_made}
use Rattle.arena_region.specs.contracts.store.nowhere as F
use Rattle.arena_region.specs.contracts.store.nowhere.Key.{name as #self}
use Rattle.arena_region.proofs.store.nowhere.Statement as stated
use Rattle.arena_region.proofs.store.nowhere.Code as code

abbrev function : Fn
function = code.function

abbrev ended : Ended
ended = F.ended

abbrev stayed : Stays ended.signature.params ended.kept
stayed = tt

module _ {M : Type 1} {𝓤 : Ura M} (𝓛 : Logic 𝓤) (at_mem : Memory → SProp 𝓤) (run : Routine → Fun 𝓤) where
  open 𝓛 use {H}

  abbrev held : Clauses 𝓤 ended
  held = F.clauses 𝓛 at_mem run

  module _ (C : Calls 𝓤 H) (Λ : Loops 𝓤 H) (z : (walk_of 𝓛 ended stayed held).Ghost) where
    abbrev Post : Val → SProp 𝓤
    Post = (walk_of 𝓛 ended stayed held).post z

    walks : ent 𝓤 ((walk_of 𝓛 ended stayed held).pre z) (WpFn 𝓤 H C Λ function ((walk_of 𝓛 ended stayed held).args z) Post)
    walks =
        qed 𝓛 (raw ((walk_of 𝓛 ended stayed held).pre z) ∷ []) ∵ keep ! [] $
        enter ! C Λ function [] Post $ alloc_all ! (λ l. pass_all ! refl tt $
        let p = block_ptr (l 1) 0 in let new : St.Denot = record { at = p; room = 0; ready = [] } in
        sets ! (agg ! (no_more !)) refl (tt, tt) $ sets ! (addr ! (from ! (stop !))) refl (tt, tt) $
        sets ! (agg ! (and_then ! (get ! refl) (no_more !))) refl (word-good p) $
        sets ! (agg ! (no_more !)) refl (tt, tt) $
        sets ! (agg ! (and_then ! (get ! refl) (and_then ! (get ! refl) (no_more !)))) refl (tt, ((tt, tt), (tt, tt))) $
        returns ! (look_at ! 0 refl) $ free_all ! refl $ keep ! [] $
        use0 𝓛 (‵ (froom (block_of 0) (l 1) 0)) (𝓛.laws.room_nil byte (l 1) 0) $ nothing ! $ fjoin ! $
        flt_i ! 0 (2 ^ 63) (omega arith) $ fjoin ! $ store_made ! new $ word_made ! p $
        two_made ! Bs St (record { ptr = p }) new (word p) none $
        suffices ! _ (ends_at 𝓛 ended stayed held z (two (word p) none) (record { ptr = p }, new) tt tt) $ says ! (refl, refl, refl) $
        nothing ! $ nothing ! $ done !)

  meets : (𝓣 : Tables 𝓤 H) → Meets 𝓛 ended.signature (WpFn 𝓤 H 𝓣.C 𝓣.Λ function) (closing 𝓛 ended held)
  meets 𝓣 = walk_Meets 𝓛 ended stayed tt held (WpFn 𝓤 H 𝓣.C 𝓣.Λ function) (WpFn-mono 𝓤 H 𝓛.laws 𝓣 function) (walks 𝓣.C 𝓣.Λ)

pub nowhere_spec : {M : Type 1} → stated.statement M
unfolding tables_of
nowhere_spec 𝓤 𝓛 𝓜 𝓡 wired =
    let 𝓣 : Tables 𝓤 𝓛.H = tables_of 𝓤 𝓛.H 𝓜 (tables 𝓤 𝓛.H 𝓜 𝓡 𝓡.env) in
    entered 𝓤 𝓛.H (triple_of 𝓛 ended.signature (closing 𝓛 ended (held 𝓛 𝓜.mem 𝓡.returns))) 𝓣.C 𝓣.Λ #self function
    (code.unfolded 𝓤 𝓛.H 𝓜 𝓡 wired) (meets 𝓛 𝓜.mem 𝓡.returns 𝓣)
