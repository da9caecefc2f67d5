use Rattle.std.proofs.Common.{rules, ◌≡◌, [], ◌∷◌, Some, ap, sym, ◌∙◌}
use Rattle.atomic_table.specs.Table.{rest}
use Rattle.arena_pool.specs.Sharing.{owner_view}
use Rattle.arena_pool.proofs.OwnerLemmas.{takes_slot, gives_slot, parts}
use Rattle.arena_pool.proofs.owners.share.Goals as goal

pub load-requires : goal.load-requires
load-requires g c =
    let table = c.deref.ensures ∙ c.in-Ok-new.ensures.ok in
    let key : c.deref.result.now.shared.key ≡ c.args.a = ap (λ t. t.shared.key) table ∙ c.in-Ok.ensures.5 in
    (search rules, search rules, takes_slot _ _ _ _ (c.in-Ok.ensures.4 ∙ ap (λ x. (owner_view x 0, [])) (sym key)))

pub load-requires-2 : goal.load-requires-2
load-requires-2 g c =
    let table = c.deref-3.ensures ∙ c.in-Ok-new.ensures.ok in
    let key : c.deref-3.result.now.shared.key ≡ c.args.a = ap (λ t. t.shared.key) table ∙ c.in-Ok.ensures.5 in
    let took = c.load.ensures.2 in
    let mine : c.load.new.seat.me.0 ≡ owner_view c.args.a 1 = ap (λ m. m.0) took ∙ ap (λ m. owner_view m.0.shared 1) c.in-Ok.ensures.4 in
    let none_left = ap (λ m. rest m.1) took in (
      search rules,
      search rules,
      gives_slot _ _ _ _ (c.exchange.ensures.3 ∙ (λ i. (mine i, (0, Some c.args.a) ∷ none_left i))
          ∙ ap (λ x. (owner_view x 1, (0, Some x) ∷ [])) (sym key)),
    )

pub split_seat-second-requires : goal.split_seat-second-requires
split_seat-second-requires g c =
    let table = c.deref-4.ensures ∙ c.in-Ok-new.ensures.ok in
    let key : c.deref-4.result.now.shared.key ≡ c.args.a = ap (λ t. t.shared.key) table ∙ c.in-Ok.ensures.5 in
    let took = ap (λ m. owner_view m.0.shared 2) c.in-Ok.ensures.4 in
    let mine : c.load.new.seat.me.0 ≡ owner_view c.args.a 1 = ap (λ m. m.0) c.load.ensures.2
    ∙ ap (λ m. owner_view m.0.shared 1) c.in-Ok.ensures.4 in
    let now : c.exchange.new.seat.me.0 ≡ owner_view c.args.a 1 = ap (λ m. m.0) c.exchange.ensures.3 ∙ mine in (
      search rules,
      search rules,
      parts _ _ _ (ap (λ m. m.0) c.load-2.ensures.2
          ∙ (ap (λ v. owner_view v.shared 2) now ∙ ap (λ x. owner_view x 2) (sym key))),
    )
