-- Why a command was refused, in words. The results of such a command begin with `refused`, a number
-- and a name.
use Rattle.std.specs.Prelude.{ℕ, ◌==◌, if◌then◌else◌, List, [], ◌∷◌, Option, Some, None, codes, bytes_eq}
use Rattle.scenario_text.specs.Commands.{a_number}
use Rattle.scenario_text.specs.Word.{Word, words_of}

-- the cause that a number stands for; nothing for other numbers
abbrev pub sentence_of : ℕ → List ℕ
sentence_of n =
    if n == 1 then codes "a part of a name is longer than 64, 64 or 256 bytes" else
    if n == 2 then codes "a value has more than 1,024 bytes" else
    if n == 3 then codes "a node can't join through itself, call itself down, exchange with itself, or say hello to itself" else
    if n == 10 then codes "the bytes end within the header or the announced body" else
    if n == 11 then codes "the bytes don't begin as a frame does" else
    if n == 12 then codes "the frame is of another version" else
    if n == 13 then codes "the header names no kind of message" else
    if n == 14 then codes "the header announces a body that is longer than 16,777,216 bytes" else
    if n == 15 then codes "the body breaks a rule of its kind" else
    if n == 16 then codes "bytes stand behind the announced body" else
    if n == 20 then codes "a writer can't count any further" else
    if n == 25 then codes "the node holds 8,192 keys" else
    if n == 26 then codes "the read is of another key" else
    if n == 27 then codes "there are too many siblings, or too many bytes of them" else
    if n == 28 then codes "the capacity is out of range, or the node has sixteen watches" else
    if n == 29 then codes "the node has no such watch in this life" else
    if n == 35 then codes "the node is in the last life that has a number" else
    if n == 40 then codes "the frame is for another node" else
    if n == 42 then codes "no frame has this number" else
    if n == 43 then codes "no read has this number" else
    if n == 44 then codes "no node has this number" else
    if n == 45 then codes "the bytes are a frame" else
    if n == 46 then codes "the node has no image of this number" else
    []

abbrev pub line_of_cause : List ℕ → List (List ℕ)
line_of_cause [] = []
line_of_cause (b ∷ cause) = (b ∷ cause) ∷ []

-- a number that was read from words
abbrev pub reasons_of_number : Option (ℕ × List Word) → List (List ℕ)
reasons_of_number None = []
reasons_of_number (Some read) = line_of_cause (sentence_of read.0)

abbrev pub reasons_of_words : List Word → List (List ℕ)
reasons_of_words [] = []
reasons_of_words (first ∷ words) =
    if bytes_eq first (codes "refused") then reasons_of_number (a_number words) else []

-- a line of why, if results begin with a refusal
abbrev pub reasons_of : List ℕ → List (List ℕ)
reasons_of results = reasons_of_words (words_of results)
