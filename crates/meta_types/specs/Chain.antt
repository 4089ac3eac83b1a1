-- Small steps, one after the other, as the tables of views, of broadcast and of a node are written.
infixl 5 ◌▷◌
-- and then
abbrev pub ◌▷◌ : {A B : Type 0} → A → (A → B) → B
x ▷ f = f x
