mod Uniform
