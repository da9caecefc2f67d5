-- How a source that notes its requests reports them.
use Rattle.std.specs.Prelude.{◌≡◌, ℕ, ◌≤◌, Option, Some, None, List, [], ◌∷◌, ◌++◌}
use Rattle.std.specs.Option.{option_map}
use Rattle.std.specs.Vec.{vec_capacity, vec_len}
use Rattle.std.specs.Global.{Vec}

-- the noted requests, if none is missing
abbrev pub told : Option (Vec (ℕ × ℕ)) → Option (List (ℕ × ℕ))
told notes = option_map (λ (v : Vec (ℕ × ℕ)). v.items) notes

-- One more request was noted. It may be lost only if there was no room for it, and all notes with it; none is made
-- after that.
abbrev pub Notes : Option (Vec (ℕ × ℕ)) → Option (Vec (ℕ × ℕ)) → ℕ × ℕ → Type 0
Notes None after request = after ≡ None
Notes (Some notes) (Some noted) request = noted.items ≡ notes.items ++ request ∷ []
Notes (Some notes) None request = vec_capacity notes ≤ vec_len notes
