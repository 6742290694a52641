-- How a text is cut: into lines, each ended by byte 10, and a line into fields, parted by byte 9.
use Rattle.std.specs.Prelude.{◌≡◌, ℕ, false, cond, List, [], ◌∷◌, ◌++◌, ◌==◌}
use Rattle.std.specs.List.{flat_map, position_or_len, onto_first, slice_split, join_with_byte, AllByRecursion}

-- how many bytes stand before the first c
abbrev pub before : ℕ → List ℕ → ℕ
before c xs = position_or_len (λ x. x == c) xs

-- x put in front of the first part
abbrev pub onto : ℕ → List (List ℕ) → List (List ℕ)
onto x ls = onto_first x ls

-- the parts that are each ended by c; bytes after the last c are one more part
abbrev pub ended_by : ℕ → List ℕ → List (List ℕ)
ended_by c [] = []
ended_by c (x ∷ xs) = cond (x == c) ([] ∷ ended_by c xs) (onto x (ended_by c xs))

-- the parts between which c stands: one more than there are c
abbrev pub parted_by : ℕ → List ℕ → List (List ℕ)
parted_by c xs = slice_split (λ x. x == c) xs

abbrev pub lines_of : List ℕ → List (List ℕ)
lines_of text = ended_by 10 text

abbrev pub fields_of : List ℕ → List (List ℕ)
fields_of line = parted_by 9 line

-- c does not stand in the list
abbrev pub Lacks : ℕ → List ℕ → Type 0
Lacks c xs = AllByRecursion (λ x. (x == c) ≡ false) xs

-- fields with a tab between each and the next
abbrev pub tabbed : List (List ℕ) → List ℕ
tabbed fields = join_with_byte 9 fields

-- nothing is lost: lines with byte 10 after each are the text, and no line holds that byte
abbrev pub LinesMake : List ℕ → List (List ℕ) → Type 0
LinesMake text lines = (flat_map (λ l. l ++ (10 ∷ [])) lines ≡ text) × AllByRecursion (Lacks 10) lines

-- and fields with byte 9 between them are the line
abbrev pub FieldsMake : List ℕ → List (List ℕ) → Type 0
FieldsMake line fields = (tabbed fields ≡ line) × AllByRecursion (Lacks 9) fields
