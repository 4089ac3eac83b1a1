-- comparing prefixes part by part
mod Prefixes
-- how many watches hear a key, one watch after another
mod Hearing
