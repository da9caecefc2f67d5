-- Shapes as SVG. A byte is a user unit wide, in each row alike. Heights are in `em`; a row has 18.
use Rattle.std.specs.Prelude.{ℕ, ◌+◌, ◌-◌, ◌*◌, ◌/◌, ◌==◌, nat_le, max, if◌then◌else◌, List, [], ◌∷◌, ◌++◌, length, codes, decimal}
use Rattle.std.specs.List.{flat_map}
use Rattle.arena_store.specs.declared.block.Block.{Block}
use Rattle.arena_core.specs.declared.iter.Chunk.{Chunk}
use Rattle.arena_drawing.specs.declared.shapes.Shape as shape

-- a text with the next number in place of each `$`
unfoldable pub filled : List ℕ → List ℕ → List ℕ
filled [] numbers = []
filled (c ∷ text) [] = c ∷ filled text []
filled (c ∷ text) (n ∷ numbers) = if c == 36 then decimal n ++ filled text numbers else c ∷ filled text (n ∷ numbers)

-- a line feed after each line
abbrev pub lines : List (List ℕ) → List ℕ
lines all = flat_map (λ (line : List ℕ). line ++ 10 ∷ []) all

-- What is shown of a chunk: all of it, and its used part over it, which is the bytes from its cursor on.
abbrev pub chunk_template : List ℕ
chunk_template = lines
    (codes "<svg y='$em'><text y='1.5em'>chunk at $: $ bytes, $ used</text>"
    ∷ codes "<rect class='free' y='6em' width='$' height='8em'/><rect class='used' x='$' y='6em' width='$' height='8em'/></svg>"
    ∷ [])

abbrev pub chunk_text : ℕ → Chunk → List ℕ
chunk_text row chunk =
    let free = chunk.cursor - chunk.base in
    let used = chunk.size - free in
    filled chunk_template ((row * 18) ∷ chunk.base ∷ chunk.size ∷ used ∷ chunk.size ∷ free ∷ used ∷ [])

-- A block with bytes: one rectangle at its x, as wide as its bytes, with its name, its size and its address as its
-- title. Where it is 9 `em` wide, it is labelled with its name and its size.
abbrev pub block_template : List ℕ
block_template =
    codes "<svg y='$em'><svg class='block' x='$' y='6em' width='$' height='8em'>" ++ 10
    ∷ codes "<title>block $: $ bytes at $</title><rect width='100%' height='100%'/>"

abbrev pub label_template : List ℕ
label_template = codes "<text x='50%' y='1.7em'>$:$</text>"

abbrev pub label_text : ℕ → ℕ → Block → List ℕ
label_text em name block =
    if nat_le em (block.size / 9) then filled label_template (name ∷ block.size ∷ []) else []

-- one of no bytes: one line at its x, with the same title
abbrev pub empty_template : List ℕ
empty_template = lines
    (codes "<svg y='$em'><line class='empty' x1='$' x2='$' y1='5em' y2='15em'>"
    ∷ codes "<title>block $: empty, at $</title></line></svg>"
    ∷ [])

abbrev pub block_text : ℕ → ℕ → ℕ → ℕ → Block → List ℕ
block_text em row x name block =
    if block.size == 0 then filled empty_template ((row * 18) ∷ x ∷ x ∷ name ∷ block.addr ∷ [])
    else filled block_template ((row * 18) ∷ x ∷ block.size ∷ name ∷ block.size ∷ block.addr ∷ [])
    ++ label_text em name block ++ filled (codes "</svg></svg>" ++ 10 ∷ []) []

abbrev pub shape_text : ℕ → shape.Shape → List ℕ
shape_text em (shape.TheVariants.Chunk row chunk) = chunk_text row chunk
shape_text em (shape.TheVariants.Block row x name block) = block_text em row x name block

-- The picture is 160 `em` wide, which are 960 pixels and at least as wide as the largest chunk.
abbrev pub largest : List Chunk → ℕ
largest [] = 0
largest (chunk ∷ older) = max chunk.size (largest older)

abbrev pub em_of : List Chunk → ℕ
em_of chunks = largest chunks / 160 + 1

abbrev pub head_template : List ℕ
head_template = lines
    (codes "<svg xmlns='http://www.w3.org/2000/svg' width='980' height='$'>"
    ∷ codes "<style>text{font:3em sans-serif}rect,line{stroke:#345;stroke-width:.1em}.free{fill:#eee}.used{fill:url(#dead)}"
    ∷ codes ".block rect{fill:#8bd}.block text{text-anchor:middle}.empty{stroke:#b30;stroke-width:.4em}</style>"
    ∷ codes "<svg x='10' width='960' height='960' overflow='visible' viewBox='0 0 $ $' font-size='$'>"
    ∷ codes "<pattern id='dead' width='1em' height='1em' patternUnits='userSpaceOnUse'><line x2='1em' y2='1em'/></pattern>"
    ∷ [])

abbrev pub foot_template : List ℕ
foot_template = lines
    (codes "<svg y='$em'><text y='1.5em'>"
    ∷ codes "grey: free. hatched: used by no block. blue: blocks, name:bytes. red: empty blocks"
    ∷ codes "</text></svg></svg></svg>"
    ∷ [])

-- the head, each shape, and the foot in the row below all chunks
abbrev pub svg_text : List Chunk → List shape.Shape → List ℕ
svg_text chunks shapes =
    let em = em_of chunks in
    filled head_template ((length chunks * 108 + 108) ∷ (em * 160) ∷ (em * 160) ∷ em ∷ [])
    ++ flat_map (shape_text em) shapes
    ++ filled foot_template ((length chunks * 18) ∷ [])
