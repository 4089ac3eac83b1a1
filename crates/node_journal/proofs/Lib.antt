-- numbers that stand twice, or once
mod Apart
