mod Fronts
mod Rests
