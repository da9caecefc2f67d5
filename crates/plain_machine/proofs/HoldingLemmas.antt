-- The end of the newest chunk, below which each held block ends.
use Rattle.std.proofs.lemmas.Bool.Decides.{nat_tests}
use Rattle.std.proofs.Common.{◌≡◌, ℕ, IsTrue, Option, refl, sym, ◌+◌, ◌<◌, ◌≤◌, ap, ◌∙◌, subst, arith, Some, None, Bool, true, false, cond}
use Rattle.std.specs.Ordering.{nat_cmp, eq_by_cmp}
use Rattle.std.specs.Cmp.{nat_cmp_total}
use Rattle.std.specs.FinMap as map
use Rattle.std.specs.Option.{option_map_or}
use Rattle.std.specs.FinMap.{get-empty, get-insert, get-remove, get-retain_keys, nat_cmp-IsAntisymmetric}
use Rattle.std.proofs.lemmas.Bool.{cases_eq}
use Rattle.std.proofs.lemmas.Option.{none-some, same_Some}
use Rattle.arena_rules.specs.State.{State, IsValid, top_of, is_place_used}
use Rattle.arena_rules.specs.Moves.{dealloc}
use Rattle.call_rules.specs.Machine.{Held, is_left}
use Rattle.arena_rules.specs.declared.place.Place.{Place}
use Rattle.arena_rules.proofs.CursorLemmas.{top_set}
use Rattle.arena_rules.proofs.ReturnLemmas.{dealloc_at, dealloc_elsewhere, used_filled}
use Rattle.arena_rules.proofs.UsedLemmas.{used_high}
use Rattle.plain_machine.specs.Holding.{EndBelow}

pub dealloc_top : (state : State) (p size : ℕ) → top_of (dealloc state p size).chunks ≡ top_of state.chunks
dealloc_top state p size = grind (arith, nat_tests, cases_eq, dealloc_at, top_set, dealloc_elsewhere)

pub end_none : (top : ℕ) → EndBelow top map.empty
end_none top name p found some = absurd (none-some p (rw (get-empty nat_cmp name) at found))

pub end_later : (old new : ℕ) (held : Held) → old ≤ new → EndBelow old held → EndBelow new held
end_later old new held later below name p found some = omega (arith, later, below name p found some)

pub end_insert : (top : ℕ) (held : Held) (name : ℕ) (place : Place) → EndBelow top held → (0 < place.size → place.addr + place.size ≤ top)
    → EndBelow top (map.insert held name place)
end_insert top held name place below end other p found =
    go (eq_by_cmp nat_cmp other name) (rw (get-insert nat_cmp_total held name place other) at found)
  where
    go : (b : Bool) → cond b (Some place) (map.get held other) ≡ Some p → 0 < p.size → p.addr + p.size ≤ top
    go true same = subst (λ (q : Place). 0 < q.size → q.addr + q.size ≤ top) (same_Some place p same) end
    go false same = below other p same

pub end_remove : (top : ℕ) (held : Held) (name : ℕ) → EndBelow top held → EndBelow top (map.remove held name)
end_remove top held name below other p found = go (eq_by_cmp nat_cmp other name) (rw (get-remove nat_cmp_total held name other) at found)
  where
    go : (b : Bool) → cond b None (map.get held other) ≡ Some p → 0 < p.size → p.addr + p.size ≤ top
    go true same = absurd (none-some p same)
    go false same = below other p same

-- The remaining blocks end below the newest data end.
pub end_left : (state : State) (held : Held) → IsValid state → EndBelow (top_of state.chunks) (map.retain_keys held (is_left state held))
end_left state held valid name p found some =
    used_high state p.addr p.size valid some (used_filled state p some (go (map.get held name)
    (sym (get-retain_keys held (is_left state held) name (λ x same. ap (is_left state held) (sym (nat_cmp-IsAntisymmetric name x same))))
    ∙ found)))
  where
    go : (o : Option Place) → cond (option_map_or (is_place_used state) o false) o None ≡ Some p → IsTrue (is_place_used state p)
    go None same = absurd (none-some p same)
    go (Some q) same = used (is_place_used state q) refl same
      where
        used : (b : Bool) → is_place_used state q ≡ b → cond b (Some q) None ≡ Some p → IsTrue (is_place_used state p)
        used false is here = absurd (none-some p here)
        used true is here = subst (λ (r : Place). IsTrue (is_place_used state r)) (same_Some q p here) is
