-- The text of words, and where a text stands in a file.
use Rattle.std.specs.Prelude.{◌≡◌, ℕ, List, [], ◌∷◌, ◌++◌, length, take, drop}
use Rattle.words.specs.Lines.{Spot}

abbrev pub texts : List Spot → List (List ℕ)
texts [] = []
texts (w ∷ ws) = w.text ∷ texts ws

-- words with one space between
abbrev pub spaced : List (List ℕ) → List ℕ
spaced [] = []
spaced (w ∷ []) = w
spaced (w ∷ v ∷ ws) = w ++ (32 ∷ spaced (v ∷ ws))

-- a line of these words, with its line feed
abbrev pub line_of : List (List ℕ) → List ℕ
line_of ws = spaced ws ++ (10 ∷ [])

-- this text stands in the file from place p on
abbrev pub Stands : List ℕ → ℕ → List ℕ → Type 0
Stands file p t = take (length t) (drop p file) ≡ t
